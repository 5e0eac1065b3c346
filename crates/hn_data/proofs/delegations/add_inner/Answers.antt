use Rattle.hn_base.proofs.Names.{◌≡◌, List, [], ◌∷◌, ◌++◌, sym, ap, ◌∙◌, append_assoc, filter_map, filter_map-append}
use Rattle.hn_data.proofs.Names.{PlainTlv, plain, PlainItem, IsReading, delegation_of, Delegation}
use Rattle.hn_data.proofs.OneMoreItem.{readings_join}
use Rattle.hn_data.proofs.DoneUpTo.{done_more}
use Rattle.hn_data.proofs.delegations.add_inner.Goals as goal

-- the items of TLVs, and the delegations of these at the end of a list
abbrev AddsTo : List Delegation → List Delegation → List PlainTlv → Type 0
AddsTo old new tlvs = (items : List PlainItem) × IsReading tlvs items × (new ≡ old ++ filter_map delegation_of items)

more : (first old new : List Delegation) (tlv : PlainTlv) → AddsTo old new (tlv ∷ []) → (tlvs : List PlainTlv) → AddsTo first old tlvs → AddsTo first new (tlvs ++ tlv ∷ [])
more first old new tlv (one, is, last) tlvs (items, read, so_far) = (
  items ++ one,
  readings_join tlvs (tlv ∷ []) items one read is,
  last ∙ ap (λ (xs : List Delegation). xs ++ filter_map delegation_of one) so_far
      ∙ append_assoc first (filter_map delegation_of items) (filter_map delegation_of one)
      ∙ ap (λ (xs : List Delegation). first ++ xs) (sym (filter_map-append delegation_of items one)),
)

pub loop-tlv-preserved : goal.loop-tlv-preserved
loop-tlv-preserved c =
    let tlv = plain c.in-Some.tlv in
    let first = c.args.list.now.items in
    done_more c.list_grows.ensures (AddsTo first c.loop-tlv.list.items) (AddsTo first c.add_delegation.new.list.items)
    c.args.subs.now c.loop-tlv.place c.in-Some.after tlv c.in-Some.ensures.found
    (more first c.loop-tlv.list.items c.add_delegation.new.list.items tlv c.in_ok-add_delegation.ensures) c.loop-tlv.invariant
