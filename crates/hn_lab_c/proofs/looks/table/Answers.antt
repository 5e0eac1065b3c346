use Rattle.hn_base.proofs.Names.{◌≡◌, List, ℕ, Some, inr, sym, subst, name_text}
use Rattle.std.specs.Prelude.{string_bytes}
use Rattle.hn_table.specs.Table.{IsTableText}
use Rattle.hn_world.specs.Names.{member_named}
use Rattle.hn_world.specs.declared.member.Member.{Member}
use Rattle.hn_world.specs.declared.parts.Parts.{Parts}
use Rattle.hn_lab_c.specs.Looks.{IsTableOf}
use Rattle.hn_lab_c.proofs.ToldTexts.{writes, lacks_room}
use Rattle.hn_lab_c.proofs.looks.table.Goals as goal

-- the table of the router of a name, by its text
table_of : (name of text : List ℕ) (w : Parts) (m : Member) → of ≡ name → member_named of w ≡ Some m → IsTableText of m text → IsTableOf name w text
table_of name of text w m same there is = subst (λ (n : List ℕ). IsTableOf n w text) same (m, there, is)

pub returns-clause-table : goal.returns-clause-table
returns-clause-table c =
    let w = c.args.world.now.parts in
    let text = string_bytes c.in-Ok.text in
    let there = sym (rw c.in-Some-member.is at c.member.ensures) in
    let is = table_of c.args.name.now (name_text c.in-Some.name) text w c.in-Some-member.member.now c.in-Some.ensures.some.0 there c.in-Ok.ensures in
    λ done. writes (IsTableOf c.args.name.now w) text c.as_bytes.result.now c.give.new.count c.args.room.now c.give.new.room c.as_bytes.ensures.value is (c.give.ensures.written done)

pub returns-clause-refused : goal.returns-clause-refused
returns-clause-refused c =
    let w = c.args.world.now.parts in
    let text = string_bytes c.in-Ok.text in
    let there = sym (rw c.in-Some-member.is at c.member.ensures) in
    let is = table_of c.args.name.now (name_text c.in-Some.name) text w c.in-Some-member.member.now c.in-Some.ensures.some.0 there c.in-Ok.ensures in
    λ two. inr (lacks_room (IsTableOf c.args.name.now w) text c.as_bytes.result.now c.give.new.count c.args.room.now c.as_bytes.ensures.value is (c.give.ensures.no_room two))
