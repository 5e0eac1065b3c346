use Rattle.hn_base.proofs.Names.{◌≡◌, ◌∙◌, ap}
use Rattle.hn_own.proofs.Names.{Held, without_private}
use Rattle.hn_own.proofs.PostLists.{stays}
use Rattle.hn_own.proofs.held_pairs.HeldPairs.without_private.Given.{Over}
use Rattle.hn_own.proofs.held_pairs.HeldPairs.without_private.Goals as goal

-- what stays of both lists
abbrev left : (g : Over) (c : goal.After-remove-2 g) → Held
left g c = record { assigned = c.remove.new.self; backoffs = c.remove-2.new.self }

kept : (g : Over) (c : goal.After-remove-2 g) → left g c ≡ without_private c.self.inside.held
kept g c =
    let both : left g c ≡ without_private c.in_ok-held.held = λ i. record { assigned = c.remove.ensures i; backoffs = c.remove-2.ensures i } in
    both ∙ ap without_private c.in_ok-held.ensures

pub invariant_of-result : goal.invariant_of-result
invariant_of-result g c = rw (kept g c) (stays c.self.inside.held c.self.invariant)

pub returns : goal.returns
returns g c = rw (← c.self.view_is) (kept g c)
