-- The node data of own items whose numbers fit their fields.
use Rattle.hn_base.proofs.Names.{◌≡◌, ◌<◌, ◌≤◌, ◌^◌, lit≤, ℕ, zero, suc, List, [], ◌∷◌, length, map, get_or, Option, None, Some, refl, arith, codes, All, slice_cmp, concat, flat_map, nat_cmp}
use Rattle.hn_base.proofs.Names.{nat_list_cmp_total, All-cons, All-nil, All-map, IsUtf8-from_ascii, IsAscii, IsPrefix}
use Rattle.hn_own.proofs.Names.{Caps, exact_nat, exact_lists, HasTlvs, spelling, hash_of, External, tlv_of, IsWritable, IsAscendingSet, PeerLink, AssignedPrefix, OwnItems, OwnPrefix, OwnAddress}
use Rattle.hn_own.proofs.Names.{seconds_left, AreFew, version_item, peer_item, delegated_item, external_items, assigned_item, address_item, items_of, pieces_of, IsRangedLink, IsRangedAssigned}
use Rattle.hn_base.proofs.AscendingMade.{ascending_of}
use Rattle.hn_own.specs.Laws.{OwnDataExists}
use Rattle.hn_own.specs.Ranges.{IsRangedAddress, AreRanged}
use Rattle.hn_own.proofs.OwnPieces.{delegated_tlvs, writable_together}
use Rattle.hn_own.proofs.OwnSizes.{delegated_value_size, assigned_value_size, external_short, own_data_short}

-- ---- each item has a TLV

no_tlvs : HasTlvs []
no_tlvs = ([], refl)

agent_is_ascii : IsAscii (codes "hncp")
agent_is_ascii zero = lit≤ tt
agent_is_ascii (suc zero) = lit≤ tt
agent_is_ascii (suc (suc zero)) = lit≤ tt
agent_is_ascii (suc (suc (suc zero))) = lit≤ tt
agent_is_ascii (suc (suc (suc (suc i)))) = lit≤ tt

version_writable : (caps : Caps) → IsWritable (version_item caps)
version_writable caps = record {
  in_range = (
    tt,
    (tt, ((omega (arith, caps.m_in_range), omega (arith, caps.p_in_range)), (omega (arith, caps.h_in_range), omega (arith, caps.l_in_range)))),
  );
  text = IsUtf8-from_ascii (codes "hncp") agent_is_ascii;
  other_kind = tt;
  tlvs_after = tt;
  short = lit≤ tt;
}

peer_writable : (link : PeerLink) → IsRangedLink link → IsWritable (peer_item link)
peer_writable link is = record { in_range = (is.peer, (is.peer_endpoint, is.endpoint)); text = tt; other_kind = tt; tlvs_after = no_tlvs; short = lit≤ tt }

-- seconds that are left have 4 bytes
seconds_fit : (now : ℕ) (end : Option ℕ) → seconds_left now end < 2 ^ 32
seconds_fit now None = omega arith
seconds_fit now (Some end) = omega arith

delegated_writable : (now : ℕ) (own : OwnPrefix) → IsPrefix own.prefix → IsWritable (delegated_item now own)
delegated_writable now own is = record {
  in_range = (seconds_fit now own.valid_until, (seconds_fit now own.preferred_until, is));
  text = tt;
  other_kind = tt;
  tlvs_after = no_tlvs;
  short = omega (arith, delegated_value_size now own);
}

external_writable : (now : ℕ) (list : List OwnPrefix) → length list ≤ 8 → All (λ p. IsPrefix p.prefix) list → All IsWritable (external_items now list)
external_writable now [] few are = All-nil IsWritable
external_writable now (own ∷ list) few are =
    let subs = flat_map (λ own. spelling (tlv_of (delegated_item now own))) (own ∷ list) in
    let each : All IsWritable (map (delegated_item now) (own ∷ list)) =
    All-map IsWritable (delegated_item now) (own ∷ list) (λ k d within. delegated_writable now (get_or (own ∷ list) k d) (are k d within))
    in
    let whole : IsWritable (External subs) = record {
      in_range = tt;
      text = tt;
      other_kind = tt;
      tlvs_after = delegated_tlvs now (own ∷ list) each;
      short = omega (arith, external_short now (own ∷ list) subs few refl);
    } in
    All-cons IsWritable (External subs) [] whole (All-nil IsWritable)

assigned_writable : (a : AssignedPrefix) → a.priority ≡ 2 → IsRangedAssigned a → IsWritable (assigned_item a)
assigned_writable a two is = record {
  in_range = (is.endpoint, (omega (arith, two), is.prefix));
  text = tt;
  other_kind = tt;
  tlvs_after = no_tlvs;
  short = omega (arith, assigned_value_size a);
}

address_writable : (a : OwnAddress) → IsRangedAddress a → IsWritable (address_item a)
address_writable a is = record { in_range = (is.endpoint, is.address); text = tt; other_kind = tt; tlvs_after = no_tlvs; short = lit≤ tt }

items_writable : (now : ℕ) (own : OwnItems) → AreFew own → AreRanged own → All IsWritable (items_of now own)
items_writable now own few are =
    let version = version_item own.caps in
    writable_together (version ∷ []) (map peer_item own.links) (external_items now own.delegated) (map assigned_item own.assigned) (map address_item own.addresses)
    (All-cons IsWritable version [] (version_writable own.caps) (All-nil IsWritable))
    (All-map IsWritable peer_item own.links (λ k d within. peer_writable (get_or own.links k d) (are.links k d within)))
    (external_writable now own.delegated few.delegated are.delegated)
    (All-map IsWritable assigned_item own.assigned (λ k d within. assigned_writable (get_or own.assigned k d) (few.priority k d within) (are.assigned k d within)))
    (All-map IsWritable address_item own.addresses (λ k d within. address_writable (get_or own.addresses k d) (are.addresses k d within)))

-- ---- their encodings in ascending order are node data

set_of : (pieces : List (List ℕ)) → (bytes : List ℕ) × IsAscendingSet pieces bytes
set_of pieces =
    let made = ascending_of (slice_cmp nat_cmp) nat_list_cmp_total (exact_lists nat_cmp exact_nat) pieces in
    (concat made.0, record { ascending = made.0; in_order = made.1; same = made.2; joined = refl })

pub own_data_made : OwnDataExists
own_data_made items now few are =
    let set = set_of (pieces_of now items) in (
      record { items = items; born = now; body = set.0; hash = hash_of set.0 },
      record { writable = items_writable now items few are; encoded = set.1; hashed = refl; short = own_data_short now items set.0 few set.1 },
      refl,
      refl,
    )
