-- The addresses that a router sets fit their fields.
use Rattle.hn_base.proofs.Names.{◌+◌, List, [], ◌∷◌, Contains, filter, sym, subst, inl, inr, All, All-contains, All-nil, All-push, Each}
use Rattle.hn_addr.proofs.Names.{Assigned, from_filter, PlainView, OwnAddress, seen_by, IsChosenFor, counts, none_chosen, Choosing}
use Rattle.hn_base.proofs.AscendingLists.{Contains-head, Contains-tail}
use Rattle.hn_base.proofs.Elements.{all_of}
use Rattle.hn_own.specs.Ranges.{IsRangedAddress, IsRangedHeld}
use Rattle.hn_addr.specs.Laws.{ChosenAddressesFit}
use Rattle.hn_addr.proofs.NumbersInPrefix.{address_fits}

module _ (view : PlainView) (own : List OwnAddress) (own_fit : All IsRangedAddress own) where
  -- the addresses that came fit
  abbrev ListFits : Choosing → Type 0
  ListFits p = All IsRangedAddress p.list

  step_fits : (c : Assigned) (before after : Choosing) → IsRangedHeld c → IsChosenFor view own c before after → ListFits before → ListFits after
  step_fits c before after held (inl (x, stays, is)) fit =
      subst ListFits (sym is) (All-push IsRangedAddress before.list (c.endpoint, x) fit (All-contains IsRangedAddress own (c.endpoint, x) own_fit stays.least.own_is))
  step_fits c before after held (inr (_, inl (word, k, first, is))) fit =
      subst ListFits (sym is) (All-push IsRangedAddress before.list (c.endpoint, c.prefix.bits + k) fit
      (record { endpoint = held.endpoint; address = address_fits c.prefix k held.prefix first.fits.inside }))
  step_fits c before after held (inr (_, inr (nobody, is))) fit = subst ListFits (sym is) fit

  each_fits : (cs : List Assigned) (before after : Choosing) → ((c : Assigned) → Contains cs c → IsRangedHeld c) → Each (IsChosenFor view own) cs before after
      → ListFits before → ListFits after
  each_fits [] before after held is fit = subst ListFits (sym is) fit
  each_fits (c ∷ cs) before after held (between, first, rest) fit =
      each_fits cs between after (λ d there. held d (Contains-tail c cs d there)) rest (step_fits c before between (held c (Contains-head c cs)) first fit)

pub addresses_fit : ChosenAddressesFit
addresses_fit s list words router (next, other) =
    let held = λ (c : Assigned) (there : Contains (filter (counts s) s.held.assigned) c).
    All-contains IsRangedHeld s.held.assigned c router.well.ranged.assigned (from_filter (counts s) s.held.assigned c there).0 in
    let fit = each_fits (seen_by s) s.addresses router.well.ranged.addresses (filter (counts s) s.held.assigned) none_chosen next.end held next.chosen (All-nil IsRangedAddress) in
    all_of IsRangedAddress list (λ a there. All-contains IsRangedAddress next.end.list a fit ((next.same a).0 there))
