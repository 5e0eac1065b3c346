-- What the search for a witness finds, as facts of the world: nothing if and only if the router is settled.
use Rattle.hn_base.proofs.Names.{◌≡◌, ◌≢◌, ◌∙◌, ◌↔◌, ◌<◌, ℕ, IfSome, Option, Some, None, refl, sym, ap, subst, inl, inr, arith, count_by, All-contains}
use Rattle.hn_audit.proofs.Names.{NodeId, contains_at, held, Stored, Member, Parts, Unsettled, IsFirstFound, IsFoundOf, unheld_of, FindsAlike, FindsHeld, FindsId, FindsReach, FindsUsed}
use Rattle.hn_audit.proofs.Names.{IsFirstUnsettled, FindsNear, FindsOfPeers, FindsOnLinks, FindsStranger, FindsUnseen, FindsUntrue, runs_as, IsOfOne, IsReached, set_of, HoldsState, IsSettledByRules, UseSame}
use Rattle.hn_audit.proofs.Names.{IsOfSet, Refutes}
use Rattle.hn_audit.specs.declared.witness.Unsettled.TheVariants as cause
use Rattle.hn_audit.specs.FirstWitness.{IsUnheld}
use Rattle.hn_audit.proofs.Settling.{each_of_set, each_two, in_set, set_has}
use Rattle.hn_audit.proofs.Spotting.{linked_are, no_strangers_are, spot_is, spots_of_set}

-- ---- where nothing is found

pub none_settles : (w : Parts) (r : Member) → IsFirstUnsettled w r None → IsSettledByRules w r
none_settles w r (known, ((reach, (hold, same)), (strangers, (sees, tells)))) = record {
  known = known;
  same_reach = (each_of_set w r (λ s. s.router.reach ≡ r.router.reach)).0 reach;
  held = each_two w r (λ s o. s.router.id ≢ o.router.id → HoldsState s.router o.router) hold;
  used = each_two w r (λ s o. UseSame s.router o.router) same;
  no_strangers = no_strangers_are w r strangers;
  linked = linked_are w r sees tells;
}

-- ---- what a witness says

module _ (w : Parts) (r : Member) where
  of_set : (s : Member) → IsReached w r s → IsOfSet w r s.name s
  of_set s reached = record { reached = reached; named = refl }

  id_refutes : (u : Unsettled) → IsFoundOf (FindsId w) r.router.reach u → Refutes w r u
  id_refutes u h =
      let there = contains_at r.router.reach h.place h.one h.at in
      elim h.found [
        | inl none ↦ subst (Refutes w r) (sym none.0) (record { reached = there; nobody = none.1 })
        | inr more ↦ subst (Refutes w r) (sym more.0) (record { reached = there; several = more.1 })
      ]

  reach_refutes : (u : Unsettled) → IsFoundOf (FindsReach r.router.reach) (set_of w r) u → Refutes w r u
  reach_refutes u h =
      let reached = (set_has w r h.one).0 (contains_at (set_of w r) h.place h.one h.at) in
      subst (Refutes w r) (sym h.found.0) (record { one = h.one; of_set = of_set h.one reached; others = h.found.1 })

  unheld_refutes : (s o : Member) (u : Unsettled) → IsReached w r s → IsReached w r o → IsUnheld s o u → Refutes w r u
  unheld_refutes s o u one other h = go (held s.router.table.entries o.router.id.0) refl
    where
      go : (stored : Option Stored) → held s.router.table.entries o.router.id.0 ≡ stored → Refutes w r u
      go None is =
          subst (Refutes w r) (sym (h.is ∙ ap (unheld_of s o) is)) (record {
            one = s;
            of_set = of_set s one;
            other = o;
            reached = other;
            id = refl;
            another = h.another;
            nothing = is;
          })
      go (Some stored) is =
          subst (Refutes w r) (sym (h.is ∙ ap (unheld_of s o) is)) (record {
            one = s;
            of_set = of_set s one;
            other = o;
            reached = other;
            id = refl;
            another = h.another;
            stored = stored;
            is_held = is;
            held_number = refl;
            number = refl;
            old = λ number body. h.unheld (record { stored = stored; is_held = is; number = number; body = body });
          })

  held_refutes : (u : Unsettled) → IsFoundOf (λ s. IsFirstFound (FindsHeld s) (set_of w r)) (set_of w r) u → Refutes w r u
  held_refutes u h =
      let k : IsFoundOf (FindsHeld h.one) (set_of w r) u = h.found in
      let one = (set_has w r h.one).0 (contains_at (set_of w r) h.place h.one h.at) in
      let other = (set_has w r k.one).0 (contains_at (set_of w r) k.place k.one k.at) in
      unheld_refutes h.one k.one u one other k.found

  used_refutes : (u : Unsettled) → IsFoundOf (λ s. IsFirstFound (FindsUsed s) (set_of w r)) (set_of w r) u → Refutes w r u
  used_refutes u h =
      let k : IsFoundOf (FindsUsed h.one) (set_of w r) u = h.found in
      let one = (set_has w r h.one).0 (contains_at (set_of w r) h.place h.one h.at) in
      let other = (set_has w r k.one).0 (contains_at (set_of w r) k.place k.one k.at) in
      subst (Refutes w r) (sym k.found.0) (record { one = h.one; of_set = of_set h.one one; another = k.one; of_set_too = of_set k.one other; others = k.found.1 })

  alike_refutes : (u : Unsettled) → FindsAlike r.router.reach (set_of w r) (Some u) → Refutes w r u
  alike_refutes u (inl reach) = reach_refutes u reach
  alike_refutes u (inr (none, inl held)) = held_refutes u held
  alike_refutes u (inr (none, inr (held, used))) = used_refutes u used

  stranger_refutes : (u : Unsettled) → IsFoundOf (FindsStranger r.router.reach (spots_of_set w r)) w.members u → Refutes w r u
  stranger_refutes u h =
      let (runs, unknown) = h.found.0 in
      let k : IsFoundOf (FindsNear (spots_of_set w r) h.one) h.one.attachments u = h.found.1 in
      let (link, on, (spot, has, same), is) = k.found in
      let near = (spot_is w r spot).0 has in
      subst (Refutes w r) (sym is) (record {
        one = h.one;
        runs = record { there = contains_at w.members h.place h.one h.at; running = runs };
        named = refl;
        unreached = λ there. unknown ((in_set r.router.reach h.one).1 (runs, there));
        on_link = on;
        near = spot.member;
        reached = near.0;
        near_endpoint = spot.endpoint;
        near_on_link = near.1 ∙ ap Some same;
      })

  unseen_refutes : (u : Unsettled) → IsFoundOf (λ a. IsFirstFound (FindsUnseen a) (spots_of_set w r)) (spots_of_set w r) u → Refutes w r u
  unseen_refutes u h =
      let k : IsFoundOf (FindsUnseen h.one) (spots_of_set w r) u = h.found in
      let one = (spot_is w r h.one).0 (contains_at (spots_of_set w r) h.place h.one h.at) in
      let other = (spot_is w r k.one).0 (contains_at (spots_of_set w r) k.place k.one k.at) in
      let unseen = k.found.1 in
      subst (Refutes w r) (sym k.found.0) (record {
        two = record {
          one = h.one.member;
          of_set = of_set h.one.member one.0;
          another = k.one.member;
          of_set_too = of_set k.one.member other.0;
          apart = unseen.apart;
        };
        on_one_link = record { link = h.one.link; one = one.1; other = other.1 ∙ ap Some (sym unseen.on_one_link) };
        unlinked = unseen.unlinked;
      })

  untrue_refutes : (u : Unsettled) → IsFoundOf (FindsOfPeers (set_of w r)) (set_of w r) u → Refutes w r u
  untrue_refutes u h =
      let p = h.found in
      let k : IsFoundOf (λ peer. IsFirstFound (FindsUntrue h.one peer) (set_of w r)) p.peers u = p.found in
      let o : IsFoundOf (FindsUntrue h.one k.one) (set_of w r) u = k.found in
      let one = (set_has w r h.one).0 (contains_at (set_of w r) h.place h.one h.at) in
      let other = (set_has w r o.one).0 (contains_at (set_of w r) o.place o.one o.at) in
      let untrue = o.found.1 in
      subst (Refutes w r) (sym o.found.0) (record {
        two = record { one = h.one; of_set = of_set h.one one; another = o.one; of_set_too = of_set o.one other; apart = untrue.apart };
        linked = untrue.linked;
        on_no_link = untrue.on_no_link;
      })

  links_refute : (u : Unsettled) → FindsOnLinks w.members r.router.reach (set_of w r) (spots_of_set w r) (Some u) → Refutes w r u
  links_refute u (inl stranger) = stranger_refutes u stranger
  links_refute u (inr (none, inl unseen)) = unseen_refutes u unseen
  links_refute u (inr (none, inr (seen, untrue))) = untrue_refutes u untrue

  pub first_refutes : (u : Unsettled) → IsFirstUnsettled w r (Some u) → Refutes w r u
  first_refutes u (inl known) = id_refutes u known
  first_refutes u (inr (known, inl unlike)) = alike_refutes u unlike
  first_refutes u (inr (known, inr (alike, links))) = links_refute u links

-- ---- what it says refutes that the router is settled

none_is_not_one : (n : ℕ) → n ≡ 1 → n ≡ 0 → ⊥
none_is_not_one n one none = omega (arith, one, none)

many_are_not_one : (n : ℕ) → n ≡ 1 → 1 < n → ⊥
many_are_not_one n one many = omega (arith, one, many)

pub refutes_settled : (w : Parts) (r : Member) (u : Unsettled) → Refutes w r u → ¬ IsSettledByRules w r
refutes_settled w r (cause.Unknown id) h settled =
    none_is_not_one (count_by (runs_as id) w.members) (All-contains (IsOfOne w) r.router.reach id settled.known h.reached) h.nobody
refutes_settled w r (cause.Shared id) h settled =
    many_are_not_one (count_by (runs_as id) w.members) (All-contains (IsOfOne w) r.router.reach id settled.known h.reached) h.several
refutes_settled w r (cause.OtherReach router) h settled = h.others (settled.same_reach h.one h.of_set.reached)
refutes_settled w r (cause.NotHeld router node) h settled =
    let holds = settled.held h.one h.other h.of_set.reached h.reached (λ same. h.another (same ∙ h.id)) in
    let nothing : held h.one.router.table.entries h.other.router.id.0 ≡ None = ap (λ (id : NodeId). held h.one.router.table.entries id.0) h.id ∙ h.nothing in
    let something = holds.is_held in
    absurd (cc (nothing, something))
refutes_settled w r (cause.OldData router node holds current) h settled =
    let k = settled.held h.one h.other h.of_set.reached h.reached (λ same. h.another (same ∙ h.id)) in
    let is : held h.one.router.table.entries h.other.router.id.0 ≡ Some h.stored = ap (λ (id : NodeId). held h.one.router.table.entries id.0) h.id ∙ h.is_held in
    let also = k.is_held in
    let one : k.stored ≡ h.stored = cc (is, also) in
    h.old (sym h.held_number ∙ (ap (λ (s : Stored). s.number) (sym one) ∙ (k.number ∙ h.number))) (ap (λ (s : Stored). s.body) (sym one) ∙ k.body)
refutes_settled w r (cause.OtherPrefixes router other) h settled = h.others (settled.used h.one h.another h.of_set.reached h.of_set_too.reached)
refutes_settled w r (cause.Stranger router endpoint link) h settled =
    let reached = settled.no_strangers h.one h.near endpoint h.near_endpoint h.runs h.reached (record { link = link; one = h.on_link; other = h.near_on_link }) in
    h.unreached reached.reached
refutes_settled w r (cause.NotLinked router e other f) h settled =
    h.unlinked ((settled.linked h.two.one h.two.another e f h.two.of_set.reached h.two.of_set_too.reached h.two.apart).1 h.on_one_link)
refutes_settled w r (cause.NotOnOneLink router e other f) h settled =
    h.on_no_link ((settled.linked h.two.one h.two.another e f h.two.of_set.reached h.two.of_set_too.reached h.two.apart).0 h.linked)

-- ---- the three facts of an answer

pub first_says : (w : Parts) (r : Member) (answer : Option Unsettled) → IsFirstUnsettled w r answer → ((answer ≡ None) ↔ IsSettledByRules w r) × IfSome answer (Refutes w r)
first_says w r None first = ((λ none. none_settles w r first, λ settled. refl), tt)
first_says w r (Some u) first =
    let said = first_refutes w r u first in
    ((λ none. absurd (cc), λ settled. absurd (refutes_settled w r u said settled)), said)
