use Rattle.hn_base.proofs.Names.{List, ℕ, inr, subst}
use Rattle.std.specs.Prelude.{string_bytes}
use Rattle.hn_why.specs.Why.{IsWhy}
use Rattle.hn_lab_c.proofs.ToldTexts.{writes, lacks_room}
use Rattle.hn_lab_c.proofs.looks.why.Goals as goal

pub returns-clause-why : goal.returns-clause-why
returns-clause-why c =
    let w = c.args.world.now.parts in
    let text = string_bytes c.in-Ok.text in
    let is = subst (λ (name : List ℕ). IsWhy name w text) c.in-Some.ensures.some.0 c.in-Ok.ensures in
    λ done. writes (IsWhy c.args.name.now w) text c.as_bytes.result.now c.give.new.count c.args.room.now c.give.new.room c.as_bytes.ensures.value is (c.give.ensures.written done)

pub returns-clause-refused : goal.returns-clause-refused
returns-clause-refused c =
    let w = c.args.world.now.parts in
    let text = string_bytes c.in-Ok.text in
    let is = subst (λ (name : List ℕ). IsWhy name w text) c.in-Some.ensures.some.0 c.in-Ok.ensures in
    λ two. inr (lacks_room (IsWhy c.args.name.now w) text c.as_bytes.result.now c.give.new.count c.args.room.now c.as_bytes.ensures.value is (c.give.ensures.no_room two))
