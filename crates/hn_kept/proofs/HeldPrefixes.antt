-- A router advertises at most 32 prefixes on an endpoint: each is inside another one of the at most 32 delegated prefixes that are used.
use Rattle.hn_base.proofs.Names.{◌≡◌, ◌≤◌, Bool, true, List, length, map, Option, None, Some, sym, ap, ◌∙◌, subst, arith, find, IsTotalOrder, and_parts, and_from, eqb-true, eq-eqb, length-map}
use Rattle.hn_base.proofs.Names.{PlainPrefix, prefix_cmp}
use Rattle.std.proofs.Common.{◌==◌, ◌&&◌}
use Rattle.std.specs.Prelude.{Contains}
use Rattle.hn_base.proofs.AscendingLists.{Contains-map, Contains-from_map}
use Rattle.hn_base.proofs.Elements.{found_passes, passing_found}
use Rattle.hn_base.proofs.Keys.{same_id}
use Rattle.hn_base.proofs.PartsAtPlaces.{one_of_ascending}
use Rattle.hn_base.proofs.Pigeonhole.{no_longer}
use Rattle.hn_base.proofs.Prefixes.{same_prefix, prefix_total, exact_prefix}
use Rattle.hn_base.specs.declared.ids.EpId.{EpId}
use Rattle.hn_advert.specs.declared.advert.Info.{Info}
use Rattle.hn_pair.specs.Pair.{IsAscending, assigned_pair, pair_cmp}
use Rattle.hn_pair.specs.declared.assigned.Assigned.{Assigned}
use Rattle.hn_pair.specs.declared.pair.Pair.{Pair}
use Rattle.hn_deleg.specs.declared.delegated.Delegated.{Delegated}
use Rattle.hn_rules.specs.Router.{IsRouter}
use Rattle.hn_rules.specs.declared.state.State.{State}
use Rattle.hn_router.specs.Advertising.{AreInfos}

-- whether an assignment is of an endpoint and inside a delegated prefix
abbrev is_of : EpId → Delegated → Assigned → Bool
is_of e d c = c.endpoint.0 == e.0 && (c.delegated.bits == d.prefix.bits && c.delegated.len == d.prefix.len)

of_pair : (e : EpId) (d : Delegated) (c : Assigned) → is_of e d c ≡ true → (c.endpoint ≡ e) × (c.delegated ≡ d.prefix)
of_pair e d c is =
    let parts = and_parts (c.endpoint.0 == e.0) (c.delegated.bits == d.prefix.bits && c.delegated.len == d.prefix.len) is in
    let prefix = and_parts (c.delegated.bits == d.prefix.bits) (c.delegated.len == d.prefix.len) parts.1 in (
      same_id c.endpoint e (eqb-true c.endpoint.0 e.0 parts.0),
      same_prefix c.delegated d.prefix (eqb-true c.delegated.bits d.prefix.bits prefix.0) (eqb-true c.delegated.len d.prefix.len prefix.1),
    )

is_of_pair : (e : EpId) (d : Delegated) (c : Assigned) → c.endpoint ≡ e → d.prefix ≡ c.delegated → is_of e d c ≡ true
is_of_pair e d c endpoint delegated =
    and_from (c.endpoint.0 == e.0) (c.delegated.bits == d.prefix.bits && c.delegated.len == d.prefix.len)
    (eq-eqb c.endpoint.0 e.0 (ap (λ (i : EpId). i.0) endpoint))
    (and_from (c.delegated.bits == d.prefix.bits) (c.delegated.len == d.prefix.len)
    (eq-eqb c.delegated.bits d.prefix.bits (ap (λ (p : PlainPrefix). p.bits) (sym delegated)))
    (eq-eqb c.delegated.len d.prefix.len (ap (λ (p : PlainPrefix). p.len) (sym delegated))))

-- the prefix of the assignment of an endpoint that is inside a delegated prefix
abbrev prefix_or : PlainPrefix → Option Assigned → PlainPrefix
prefix_or other None = other
prefix_or other (Some c) = c.prefix

abbrev prefix_in : List Assigned → EpId → Delegated → PlainPrefix
prefix_in assigned e d = prefix_or d.prefix (find (is_of e d) assigned)

same_pair : (x y : Pair) → x.delegated ≡ y.delegated → x.endpoint.0 ≡ y.endpoint.0 → x ≡ y
same_pair x y delegated endpoint = λ i. record { delegated = delegated i; endpoint = record { 0 = endpoint i } }

one_in : IsTotalOrder pair_cmp → (assigned : List Assigned) → IsAscending assigned_pair assigned → (a b : Assigned) → Contains assigned a → Contains assigned b
    → a.endpoint ≡ b.endpoint → a.delegated ≡ b.delegated → a ≡ b
one_in total assigned up a b in_a in_b endpoint delegated =
    one_of_ascending assigned_pair pair_cmp total assigned up a b in_a in_b
    (same_pair (assigned_pair a) (assigned_pair b) delegated (ap (λ (i : EpId). i.0) endpoint))

found_in : IsTotalOrder pair_cmp → (assigned : List Assigned) → IsAscending assigned_pair assigned → (e : EpId) (d : Delegated) (c : Assigned) → Contains assigned c
    → c.endpoint ≡ e → d.prefix ≡ c.delegated → prefix_in assigned e d ≡ c.prefix
found_in total assigned up e d c in_c endpoint delegated =
    let found = passing_found (is_of e d) assigned c in_c (is_of_pair e d c endpoint delegated) in
    let passes = found_passes (is_of e d) assigned found.0 found.1 in
    let pair = of_pair e d found.0 passes.1 in
    ap (prefix_or d.prefix) found.1
    ∙ ap (λ (a : Assigned). a.prefix) (one_in total assigned up found.0 c passes.0 in_c (pair.0 ∙ sym endpoint) (pair.1 ∙ delegated))

pub few_held : IsTotalOrder pair_cmp → (s : State) (e : EpId) (infos : List Info) → IsRouter s → AreInfos s e infos → length infos ≤ 32
few_held total s e infos router are =
    let assigned = s.held.assigned in
    let prefixes = map (λ (i : Info). i.prefix) infos in
    let found = map (prefix_in assigned e) are.usable in
    let few = no_longer prefix_cmp prefix_total exact_prefix prefixes found are.ascending (λ p there.
    let it = Contains-from_map (λ (i : Info). i.prefix) infos p there in
    let of = (are.each it.0).0 it.1 in
    let is : prefix_in assigned e of.delegated ≡ p =
    found_in total assigned router.well.pairs.assigned e of.delegated of.assignment of.held of.of_endpoint of.of_delegated ∙ sym of.prefix ∙ it.2 in
    subst (Contains found) is (Contains-map (prefix_in assigned e) are.usable of.delegated of.is_used)) in
    let many = length-map infos (λ (i : Info). i.prefix) in
    let all = length-map are.usable (prefix_in assigned e) in
    omega (arith, few, many, all, are.are_usable.few)
