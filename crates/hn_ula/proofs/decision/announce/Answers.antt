use Rattle.hn_base.proofs.Names.{[], ◌∷◌, refl, ap}
use Rattle.hn_ula.proofs.Names.{Announce}
use Rattle.hn_ula.proofs.decision.announce.Goals as goal

pub returns : goal.returns
returns g c =
    let first = c.take-first.result in
    let second = c.take-second.result in (
      first ∷ second ∷ [],
      (first, second, refl, ap Announce c.made_of.ensures),
      c.words_join.ensures _ _ _ (first ∷ []) (second ∷ []) c.take-first.ensures c.take-second.ensures,
    )
