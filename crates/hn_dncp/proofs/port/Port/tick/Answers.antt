use Rattle.hn_base.proofs.Names.{◌≡◌, ℕ, List, ◌++◌, subst, take, arith, common_steps, Took}
use Rattle.std.specs.Option.{option_to_list}
use Rattle.hn_dncp.proofs.port.Port.tick.Goals as goal
use Rattle.hn_dncp.proofs.port.Port.tick.Goals.{in-None-None, in-Some-Some, in-Some-None, in-Some-None-2}

pub returns-clause-drew : goal.returns-clause-drew
returns-clause-drew g c =
    let next = option_to_list c.begin_next-next.result in
    let again = option_to_list c.keep_alive-again.result in
    let words = c.match-next.words in
    let in_order : next ++ again ≡ take words.0 words.1 =
    elim c.match-next.branch [
      | in-None-None w ↦ grind (arith, common_steps)
      | in-Some-Some w ↦ grind (arith, common_steps)
      | in-Some-None w ↦ grind (arith, common_steps)
      | in-Some-None-2 w ↦ grind (arith, common_steps)
    ]
    in
    let both = c.words_join.ensures (g.D.Draw.words c.args.draw.now) (g.D.Draw.words c.begin_next-next.new.draw)
    (g.D.Draw.words c.keep_alive-again.new.draw) next again c.begin_next-next.ensures.drew c.keep_alive-again.ensures.drew in
    subst (λ (taken : List ℕ). Took (g.D.Draw.words c.args.draw.now) taken (g.D.Draw.words c.keep_alive-again.new.draw)) in_order both
