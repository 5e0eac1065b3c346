use Rattle.hn_base.proofs.Names.{◌∙◌, ℕ, List, ◌++◌, ap, string_bytes, on_ok_weaker}
use Rattle.hn_why.proofs.Templates.{unknown_said, shared_said, other_reach_said, not_held_said, old_data_said, other_prefixes_said, stranger_said, not_linked_said, not_on_one_link_said}
use Rattle.hn_why.proofs.unsettled.push_said.Goals as goal

pub returns-in-Unknown : goal.returns-in-Unknown
returns-in-Unknown c =
    let arm = c.in-Unknown in
    let same = unknown_said c.args.world.now.parts c.args.name.now arm.id in
    rw arm.is (on_ok_weaker c.say.result (λ said. said ∙ ap (λ (xs : List ℕ). string_bytes c.args.text.now ++ xs) same) c.say.ensures)

pub returns-in-Shared : goal.returns-in-Shared
returns-in-Shared c =
    let arm = c.in-Shared in
    let same = shared_said c.args.world.now.parts c.args.name.now arm.id in
    rw arm.is (on_ok_weaker c.say-in-Shared.result (λ said. said ∙ ap (λ (xs : List ℕ). string_bytes c.args.text.now ++ xs) same) c.say-in-Shared.ensures)

pub returns-in-OtherReach : goal.returns-in-OtherReach
returns-in-OtherReach c =
    let arm = c.in-OtherReach in
    let same = other_reach_said c.args.world.now.parts c.args.name.now arm.router in
    rw arm.is (on_ok_weaker c.say-in-OtherReach.result (λ said. said ∙ ap (λ (xs : List ℕ). string_bytes c.args.text.now ++ xs) same) c.say-in-OtherReach.ensures)

pub returns-in-NotHeld : goal.returns-in-NotHeld
returns-in-NotHeld c =
    let arm = c.in-NotHeld in
    let same = not_held_said c.args.world.now.parts c.args.name.now arm.router arm.node in
    rw arm.is (on_ok_weaker c.say-in-NotHeld.result (λ said. said ∙ ap (λ (xs : List ℕ). string_bytes c.args.text.now ++ xs) same) c.say-in-NotHeld.ensures)

pub returns-in-OldData : goal.returns-in-OldData
returns-in-OldData c =
    let arm = c.in-OldData in
    let same = old_data_said c.args.world.now.parts c.args.name.now arm.router arm.node arm.holds arm.current in
    rw arm.is (on_ok_weaker c.say-in-OldData.result (λ said. said ∙ ap (λ (xs : List ℕ). string_bytes c.args.text.now ++ xs) same) c.say-in-OldData.ensures)

pub returns-in-OtherPrefixes : goal.returns-in-OtherPrefixes
returns-in-OtherPrefixes c =
    let arm = c.in-OtherPrefixes in
    let same = other_prefixes_said c.args.world.now.parts c.args.name.now arm.router arm.other in
    rw arm.is (on_ok_weaker c.say-in-OtherPrefixes.result (λ said. said ∙ ap (λ (xs : List ℕ). string_bytes c.args.text.now ++ xs) same) c.say-in-OtherPrefixes.ensures)

pub returns-in-Stranger : goal.returns-in-Stranger
returns-in-Stranger c =
    let arm = c.in-Stranger in
    let same = stranger_said c.args.world.now.parts c.args.name.now arm.router arm.endpoint arm.link c.at.result c.at.ensures in
    rw arm.is (on_ok_weaker c.say-in-Stranger.result (λ said. said ∙ ap (λ (xs : List ℕ). string_bytes c.args.text.now ++ xs) same) c.say-in-Stranger.ensures)

pub returns-in-NotLinked : goal.returns-in-NotLinked
returns-in-NotLinked c =
    let arm = c.in-NotLinked in
    let same = not_linked_said c.args.world.now.parts c.args.name.now arm.router arm.endpoint arm.other arm.other_endpoint in
    rw arm.is (on_ok_weaker c.say-in-NotLinked.result (λ said. said ∙ ap (λ (xs : List ℕ). string_bytes c.args.text.now ++ xs) same) c.say-in-NotLinked.ensures)

pub returns-in-NotOnOneLink : goal.returns-in-NotOnOneLink
returns-in-NotOnOneLink c =
    let arm = c.in-NotOnOneLink in
    let same = not_on_one_link_said c.args.world.now.parts c.args.name.now arm.router arm.endpoint arm.other arm.other_endpoint in
    rw arm.is (on_ok_weaker c.say-in-NotOnOneLink.result (λ said. said ∙ ap (λ (xs : List ℕ). string_bytes c.args.text.now ++ xs) same) c.say-in-NotOnOneLink.ensures)
