-- The attached endpoints of a set, and what is found of them.
use Rattle.hn_base.proofs.Names.{◌≡◌, ◌↔◌, ◌<◌, ℕ, ◌+◌, List, [], ◌∷◌, ◌++◌, Contains, Option, Some, None, length, take, get_or, refl, sym, ◌∙◌, ap, subst, append_assoc, inl, inr, filter_map}
use Rattle.hn_base.proofs.Names.{option_map, cases_Bool, eqb-true, false≢true, All-contains}
use Rattle.hn_audit.proofs.Names.{All, find, EpId, same_id, HasPeer, peer_link, PeerLink, Attachment, Member, Parts, is_of, link_of, IsFirstFound, FindsNear, FindsOfPeers, FindsStranger, FindsUnseen}
use Rattle.hn_audit.proofs.Names.{IsSeenPair, IsTrueOf, IsRunning, IsReached, IsOnLink, AreOnOneLink, PlainSpot, is_in_set, set_of, spot_at, spots_in, AreLinkedByRules, IsSameEndpoint, in_filter_map}
use Rattle.hn_audit.proofs.Names.{from_filter_map, found_passes}
use Rattle.hn_audit.specs.FirstWitness.{RunsOutside}
use Rattle.hn_audit.specs.Set.{spots_at}
use Rattle.hn_base.proofs.Elements.{given_next, passed_next}
use Rattle.hn_audit.proofs.ElementsOfLists.{in_flat_map, from_flat_map}
use Rattle.hn_audit.proofs.Settling.{set_has, in_set}

-- ---- lists that grow

-- what the attachments so far give
pub given_more : {X Y : Type 0} (h : X → Option Y) (xs : List X) (i : ℕ) (x d : X) (y : Y) (first ys zs : List Y) → i < length xs → x ≡ get_or xs i d → h x ≡ Some y
    → ys ≡ first ++ filter_map h (take i xs) → zs ≡ ys ++ y ∷ [] → zs ≡ first ++ filter_map h (take (i + 1) xs)
given_more {X} {Y} h xs i x d y first ys zs within is gives so_far last =
    let so : List Y = filter_map h (take i xs) in
    let more = given_next h xs i x d y so (so ++ y ∷ []) within is gives refl refl in
    last ∙ (ap (λ (v : List Y). v ++ y ∷ []) so_far ∙ (append_assoc first so (y ∷ []) ∙ ap (λ (v : List Y). first ++ v) more))

pub passed_more : {X Y : Type 0} (h : X → Option Y) (xs : List X) (i : ℕ) (x d : X) (first ys zs : List Y) → i < length xs → x ≡ get_or xs i d → h x ≡ None
    → ys ≡ first ++ filter_map h (take i xs) → zs ≡ ys → zs ≡ first ++ filter_map h (take (i + 1) xs)
passed_more {X} {Y} h xs i x d first ys zs within is gives so_far last =
    let so : List Y = filter_map h (take i xs) in
    last ∙ (so_far ∙ ap (λ (v : List Y). first ++ v) (passed_next h xs i x d so so within is gives refl refl))

-- ---- which attached endpoints there are

-- the attachment of an endpoint that is attached
pub attachment_of : (m : Member) (e : EpId) (link : ℕ) → IsOnLink link m e → (a : Attachment) × Contains m.attachments a × (a.endpoint ≡ e)
attachment_of m e link on = go (find (is_of e) m.attachments) refl on
  where
    go : (o : Option Attachment) → find (is_of e) m.attachments ≡ o → option_map (λ a. a.link) o ≡ Some link → (a : Attachment) × Contains m.attachments a × (a.endpoint ≡ e)
    go None is gives = absurd (cc)
    go (Some a) is gives =
        let found = found_passes (is_of e) m.attachments a is in
        (a, found.0, same_id a.endpoint e (eqb-true a.endpoint.0 e.0 found.1))

spot_gives : (m : Member) (e : EpId) (spot : PlainSpot) (o : Option ℕ) → link_of e m ≡ o → option_map (λ link. record { member = m; endpoint = e; link = link }) o ≡ Some spot
    → (spot.member ≡ m) × IsOnLink spot.link spot.member spot.endpoint
spot_gives m e spot None is gives = absurd (cc)
spot_gives m e spot (Some link) is gives =
    let here : PlainSpot = record { member = m; endpoint = e; link = link } in
    let same : here ≡ spot = cc in
    (sym (ap (λ (p : PlainSpot). p.member) same), subst (λ (p : PlainSpot). IsOnLink p.link p.member p.endpoint) same is)

-- an attached endpoint of a router of the list
abbrev pub IsSpotOf : List Member → PlainSpot → Type 0
IsSpotOf ms spot = Contains ms spot.member × IsOnLink spot.link spot.member spot.endpoint

pub spot_of : (ms : List Member) (spot : PlainSpot) → Contains (spots_in ms) spot ↔ IsSpotOf ms spot
spot_of ms spot = (
  λ there.
      let m = from_flat_map spots_at ms spot there in
      let a = from_filter_map (spot_at m.0) m.0.attachments spot m.2 in
      let is = spot_gives m.0 a.0.endpoint spot (link_of a.0.endpoint m.0) refl a.2 in
      (subst (Contains ms) (sym is.0) m.1, is.1),
  λ h.
      let a = attachment_of spot.member spot.endpoint spot.link h.1 in
      let gives : spot_at spot.member a.0 ≡ Some spot =
      subst (λ (e : EpId). option_map (λ link. record { member = spot.member; endpoint = e; link = link }) (link_of e spot.member) ≡ Some spot) (sym a.2)
      (ap (λ (o : Option ℕ). option_map (λ link. record { member = spot.member; endpoint = spot.endpoint; link = link }) o) h.1) in
      in_flat_map spots_at ms spot.member spot h.0 (in_filter_map (spot_at spot.member) spot.member.attachments a.0 spot a.1 gives),
)

-- ---- what is found of them

-- the attached endpoints of the set of r
abbrev pub spots_of_set : Parts → Member → List PlainSpot
spots_of_set w r = spots_in (set_of w r)

pub spot_is : (w : Parts) (r : Member) (spot : PlainSpot) → Contains (spots_of_set w r) spot ↔ (IsReached w r spot.member × IsOnLink spot.link spot.member spot.endpoint)
spot_is w r spot =
    let of = spot_of (set_of w r) spot in
    let has = set_has w r spot.member in
    (λ there. let h = of.0 there in (has.0 h.0, h.1), λ h. of.1 (has.1 h.0, h.1))

abbrev pub HaveNoStrangers : Parts → Member → Type 0
HaveNoStrangers w r = (m s : Member) (e f : EpId) → IsRunning w m → IsReached w r s → AreOnOneLink m e s f → IsReached w r m

pub no_strangers_are : (w : Parts) (r : Member) → IsFirstFound (FindsStranger r.router.reach (spots_of_set w r)) w.members None → HaveNoStrangers w r
no_strangers_are w r all m s e f runs reached one =
    elim (cases_Bool (is_in_set r.router.reach m)) [
      | inl in_it ↦ record { runs = runs; reached = ((in_set r.router.reach m).0 in_it).1 }
      | inr not_in_it ↦
          let spot : PlainSpot = record { member = s; endpoint = f; link = one.link } in
          let there = (spot_is w r spot).1 (reached, one.other) in
          let a = attachment_of m e one.link one.one in
          let outside : RunsOutside r.router.reach m = (runs.running, λ yes. false≢true (sym not_in_it ∙ yes)) in
          let none = All-contains (λ (x : Member). FindsStranger r.router.reach (spots_of_set w r) x None) w.members m all runs.there outside in
          let here = All-contains (λ (x : Attachment). FindsNear (spots_of_set w r) m x None) m.attachments a.0 none a.1 in
          absurd (here (one.link, subst (IsOnLink one.link m) (sym a.2) one.one, (spot, there, refl)))
    ]

abbrev pub AreLinkedOnLinks : Parts → Member → Type 0
AreLinkedOnLinks w r =
    (s u : Member) (e f : EpId) → IsReached w r s → IsReached w r u → ¬ IsSameEndpoint s.router e u.router f
    → AreLinkedByRules s.router e u.router f ↔ AreOnOneLink s e u f

seen_of : (spots : List PlainSpot) → IsFirstFound (λ a. IsFirstFound (FindsUnseen a) spots) spots None → (a b : PlainSpot) → Contains spots a → Contains spots b → IsSeenPair a b
seen_of spots all a b one other =
    All-contains (IsSeenPair a) spots b (All-contains (λ (p : PlainSpot). All (IsSeenPair p) spots) spots a all one) other

told_of : (set : List Member) (s u : Member) (peer : PeerLink) → IsFirstFound (FindsOfPeers set) set None → Contains set s → Contains set u → HasPeer s.router.own.body peer → IsTrueOf s peer u
told_of set s u peer all one other has =
    let of = All-contains (λ (x : Member). FindsOfPeers set x None) set s all one in
    All-contains (IsTrueOf s peer) set u (All-contains (λ (p : PeerLink). All (IsTrueOf s p) set) of.peers peer of.found ((of.are_said.exact peer).1 has)) other

pub linked_are : (w : Parts) (r : Member) → IsFirstFound (λ a. IsFirstFound (FindsUnseen a) (spots_of_set w r)) (spots_of_set w r) None
    → IsFirstFound (FindsOfPeers (set_of w r)) (set_of w r) None → AreLinkedOnLinks w r
linked_are w r sees tells s u e f one other apart = (
  λ linked. told_of (set_of w r) s u (peer_link u.router.id.0 f.0 e.0) tells ((set_has w r s).1 one) ((set_has w r u).1 other) linked.there refl apart linked,
  λ on.
      let here : PlainSpot = record { member = s; endpoint = e; link = on.link } in
      let there : PlainSpot = record { member = u; endpoint = f; link = on.link } in
      seen_of (spots_of_set w r) sees here there ((spot_is w r here).1 (one, on.one)) ((spot_is w r there).1 (other, on.other)) refl apart,
)
