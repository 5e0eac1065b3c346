use Rattle.hn_base.proofs.Names.{◌∙◌, ℕ, List, ◌++◌, ap, string_bytes, on_ok_weaker}
use Rattle.hn_why.proofs.Templates.{unasked_said, makes_said, takes_said, drops_said, changes_said}
use Rattle.hn_why.proofs.unquiet.push_said.Goals as goal

pub returns-in-Unasked : goal.returns-in-Unasked
returns-in-Unasked c =
    let arm = c.in-Unasked in
    let same = unasked_said arm.router arm.endpoint arm.delegated arm.prefix in
    rw arm.is (on_ok_weaker c.say.result (λ said. said ∙ ap (λ (xs : List ℕ). string_bytes c.args.text.now ++ xs) same) c.say.ensures)

pub returns-in-Makes : goal.returns-in-Makes
returns-in-Makes c =
    let arm = c.in-Makes in
    let same = makes_said arm.router arm.endpoint arm.delegated in
    rw arm.is (on_ok_weaker c.say-in-Makes.result (λ said. said ∙ ap (λ (xs : List ℕ). string_bytes c.args.text.now ++ xs) same) c.say-in-Makes.ensures)

pub returns-in-Takes : goal.returns-in-Takes
returns-in-Takes c =
    let arm = c.in-Takes in
    let same = takes_said arm.router arm.endpoint arm.delegated arm.best in
    rw arm.is (on_ok_weaker c.say-in-Takes.result (λ said. said ∙ ap (λ (xs : List ℕ). string_bytes c.args.text.now ++ xs) same) c.say-in-Takes.ensures)

pub returns-in-Drops : goal.returns-in-Drops
returns-in-Drops c =
    let arm = c.in-Drops in
    let same = drops_said arm.router arm.endpoint arm.delegated arm.prefix in
    rw arm.is (on_ok_weaker c.say-in-Drops.result (λ said. said ∙ ap (λ (xs : List ℕ). string_bytes c.args.text.now ++ xs) same) c.say-in-Drops.ensures)

pub returns-in-Changes : goal.returns-in-Changes
returns-in-Changes c =
    let arm = c.in-Changes in
    let same = changes_said arm.router arm.endpoint arm.delegated arm.prefix arm.best in
    rw arm.is (on_ok_weaker c.say-in-Changes.result (λ said. said ∙ ap (λ (xs : List ℕ). string_bytes c.args.text.now ++ xs) same) c.say-in-Changes.ensures)
