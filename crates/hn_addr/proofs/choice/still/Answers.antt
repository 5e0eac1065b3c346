use Rattle.hn_base.proofs.Names.{◌≡◌, ◌∙◌, ◌↔◌, [], Bool, IsTrue, refl, sym, subst, false≢true}
use Rattle.hn_addr.proofs.Names.{IsAddressStill}
use Rattle.hn_addr.proofs.OneChoosing.{still_so, only_still}
use Rattle.hn_addr.proofs.choice.still.Goals as goal
use Rattle.hn_addr.proofs.choice.still.Goals.{then-is_empty, else-is_empty}

pub returns : goal.returns
returns c =
    let s = c.args.router.now in
    let next = c.in_ok-next.next in
    let only : IsAddressStill s → (next.words ≡ []) × (next.list ≡ s.addresses) =
    only_still c.choosing_is_unique.ensures s next.list next.words _ c.in_ok-next.ensures.next c.in_ok-next.ensures.drew in
    elim c.if-is_empty.branch [
      | then-is_empty w ↦ subst (λ (b : Bool). IsTrue b ↔ IsAddressStill s) (sym w.result-is) (
        λ own. still_so s next.list next.words c.in_ok-next.ensures.next (w.if-is_empty.ensures.0 refl) (sym w.as_slice.ensures ∙ w.are_own.ensures.0 own),
        λ still. w.are_own.ensures.1 (w.as_slice.ensures ∙ (only still).1),
      )
      | else-is_empty w ↦ subst (λ (b : Bool). IsTrue b ↔ IsAddressStill s) (sym w.result-is) (
        λ never. absurd (false≢true (sym w.if-is_empty.false ∙ never)),
        λ still. absurd (false≢true (w.if-is_empty.ensures.1 (only still).0)),
      )
    ]
