use Rattle.hn_base.proofs.Names.{inl, inr}
use Rattle.hn_sound.proofs.GreatestIsBest.{top_is_best, top_or_none}
use Rattle.hn_sound.proofs.laws.greatest_key_is_best.Goals as goal

pub returns-clause-best : goal.returns-clause-best
returns-clause-best c = λ home e f d a p is_home top.
    top_is_best home is_home d (record { endpoint = e; assigned = a; priority = p; fact = top.published }) f top

pub returns-clause-one_is_greatest : goal.returns-clause-one_is_greatest
returns-clause-one_is_greatest c = λ home link d. elim (top_or_none home link d) [
  | inl found ↦ inl (found.0.endpoint, found.0.assigned, found.0.priority, found.1, found.2)
  | inr none ↦ inr none
]
