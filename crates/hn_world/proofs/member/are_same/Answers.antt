use Rattle.hn_base.proofs.Names.{rules, ◌≡◌, ◌≢◌, ◌<◌, ◌≤◌, ◌-◌, ◌∙◌, ℕ, length, get_or, take, sym, ap, subst, arith, common_steps, bytes_eq-Decides, name_text}
use Rattle.hn_world.proofs.SameNames.{AreSameFrom, same_texts, other_byte, not_same}
use Rattle.hn_world.proofs.member.are_same.Goals as goal

pub returns-then-a-left : goal.returns-then-a-left
returns-then-a-left c =
    let a = c.args.a.now in
    let b = c.args.b.now in
    let lens : a.len ≡ b.len = grind (arith, common_steps) in
    let place = c.loop-left.left - 1 in
    let some : 0 < c.loop-left.left = search rules in
    let most : c.loop-left.left ≤ a.len = c.loop-left.invariant.0 in
    let other : get_or a.bytes place 0 ≢ get_or b.bytes place 0 = grind (arith, common_steps) in
    sym (not_same (name_text a) (name_text b) (λ same. other_byte a.bytes b.bytes a.len place (omega arith) other (same ∙ ap (λ (n : ℕ). take n b.bytes) (sym lens))))

pub returns : goal.returns
returns c =
    let a = c.args.a.now in
    let b = c.args.b.now in
    let lens : a.len ≡ b.len = grind (arith, common_steps) in
    let none : c.loop-left.left ≡ 0 = (let done = c.loop-left-test.false in omega (arith, done)) in
    let in_a : a.len ≤ length a.bytes = search rules in
    let in_b : a.len ≤ length b.bytes = search rules in
    let all : AreSameFrom a.bytes b.bytes a.len 0 = subst (AreSameFrom a.bytes b.bytes a.len) none c.loop-left.invariant.1 in
    let same = same_texts a.bytes b.bytes a.len in_a in_b all in
    sym ((bytes_eq-Decides (name_text a) (name_text b)).1 (same ∙ ap (λ (n : ℕ). take n b.bytes) lens))
