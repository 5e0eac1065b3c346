-- What the advertised prefixes and the Common Links of a home have.
use Rattle.hn_base.proofs.Names.{◌≡◌, ℕ, true, Option, Some, None, refl, sym, ap, ◌∙◌, subst, ◌==◌, eqb-true, eq-eqb}
use Rattle.hn_sound.proofs.Names.{Contains, NodeId, EpId, Advertised, key_of, Home, Endpoint, Held, advertised, common_link, in_filter, from_filter}
use Rattle.std.specs.Prelude.{option_map, filter}
use Rattle.hn_base.proofs.AscendingLists.{Contains-map, Contains-from_map}
use Rattle.hn_sound.specs.Home.{advertised_as}
use Rattle.hn_sound.specs.Members.{IsAdvertisedInHome, IsOnLinkOf}
use Rattle.hn_base.proofs.Elements.{in_filter_map, from_filter_map}

-- what a published assignment is advertised as
as_published : (h : Held) (priority : ℕ) → h.assigned.published ≡ Some priority → advertised_as h ≡ Some (record { key = key_of priority h.node.0 h.assigned.endpoint.0; prefix = h.assigned.prefix })
as_published h priority is = ap (option_map (λ p. record { key = key_of p h.node.0 h.assigned.endpoint.0; prefix = h.assigned.prefix })) is

pub to_advertised : (home : Home) (a : Advertised) → IsAdvertisedInHome home a → Contains (advertised home) a
to_advertised home a from =
    let is : record { key = key_of from.priority from.held.node.0 from.held.assigned.endpoint.0; prefix = from.held.assigned.prefix } ≡ a =
    λ i. record { key = sym from.key i; prefix = sym from.prefix i } in
    in_filter_map advertised_as home.assignments from.held a from.there (as_published from.held from.priority from.published ∙ ap Some is)

pub from_advertised : (home : Home) (a : Advertised) → Contains (advertised home) a → IsAdvertisedInHome home a
from_advertised home a h =
    let found = from_filter_map advertised_as home.assignments a h in
    go found.0 found.1 found.0.assigned.published refl found.2
  where
    go : (held : Held) → Contains home.assignments held → (o : Option ℕ) → held.assigned.published ≡ o
        → option_map (λ priority. record { key = key_of priority held.node.0 held.assigned.endpoint.0; prefix = held.assigned.prefix }) o ≡ Some a → IsAdvertisedInHome home a
    go held there None is e = absurd (cc)
    go held there (Some priority) is e =
        let same : record { key = key_of priority held.node.0 held.assigned.endpoint.0; prefix = held.assigned.prefix } ≡ a = cc in
        record {
          held = held;
          there = there;
          priority = priority;
          published = is;
          key = sym (ap (λ (b : Advertised). b.key) same);
          prefix = sym (ap (λ (b : Advertised). b.prefix) same);
        }

pub to_common_link : (home : Home) (e : Endpoint) (node : NodeId) (id : EpId) → IsOnLinkOf home e node id → Contains (common_link home e) (node, id)
to_common_link home e node id on =
    let passes : (on.endpoint.link == e.link) ≡ true = eq-eqb on.endpoint.link e.link on.on_link in
    let kept : Contains (filter (λ f. f.link == e.link) home.endpoints) on.endpoint = in_filter (λ f. f.link == e.link) home.endpoints on.endpoint on.there passes in
    let mapped = Contains-map (λ (f : Endpoint). (f.node, f.id)) (filter (λ f. f.link == e.link) home.endpoints) on.endpoint kept in
    let pair : (on.endpoint.node, on.endpoint.id) ≡ (node, id) = λ i. (on.of_node i, on.of_id i) in
    subst (Contains (common_link home e)) pair mapped

pub from_common_link : (home : Home) (e : Endpoint) (node : NodeId) (id : EpId) → Contains (common_link home e) (node, id) → IsOnLinkOf home e node id
from_common_link home e node id h =
    let found = Contains-from_map (λ (f : Endpoint). (f.node, f.id)) (filter (λ f. f.link == e.link) home.endpoints) (node, id) h in
    let kept = from_filter (λ f. f.link == e.link) home.endpoints found.0 found.1 in
    record {
      endpoint = found.0;
      there = kept.0;
      on_link = eqb-true found.0.link e.link kept.1;
      of_node = ap (λ (p : NodeId × EpId). p.0) found.2;
      of_id = ap (λ (p : NodeId × EpId). p.1) found.2;
    }
