-- The question of an exchange.
use Rattle.hn_base.proofs.Names.{◌≡◌, ◌∙◌, ℕ, Bool, true, false, not, cond, List, [], ◌∷◌, length, position, slice_get, Option, Some, None, sym, ap, subst, refl, inl, arith, position_or_len}
use Rattle.hn_base.proofs.Names.{option_or, lt-ltb, All-contains, find_at, same_Some, slice_get_within, name_text}
use Rattle.hn_sync.proofs.Names.{find, is_none, Addr, EpId, NodeId, Name, found_passes, datagram_of, IsPacking, ArePorts, WEvent, Member, Parts, address_of_target, is_named, member_named}
use Rattle.hn_sync.proofs.Names.{router_place, IsReplayed, IsSoundMember, request, IsQuestion, unless_exchange, AreLeast, joint_of, QuestionIsUnique, AsksOrIsRefused}
use Rattle.hn_dncp.specs.Laws.{PackingIsUnique}
use Rattle.hn_world.specs.declared.event.WEvent.TheVariants as event
use Rattle.hn_world.specs.Asked.{code_if, of_router, unless_running}
use Rattle.hn_world.specs.Replay.{IsSoundWorld}
use Rattle.hn_sync.specs.Exchange.{unless_joined}
use Rattle.hn_sync.specs.Laws.{QuestionIsPacked}
use Rattle.hn_sync.proofs.LeastJoint.{least_from, least_is_one, joint_is}

-- ---- its datagram

is_packing : (own : NodeId) (endpoint : EpId) → IsPacking own endpoint (request ∷ []) (datagram_of own endpoint (request ∷ []) ∷ [])
is_packing own endpoint =
    (request ∷ [], [], refl, record { datagram_is = refl; not_empty = omega arith; within = inl refl; full = tt }, refl)

pub packed : PackingIsUnique → QuestionIsPacked
packed unique own endpoint datagrams = (
  λ is. unique own endpoint (request ∷ []) datagrams (datagram_of own endpoint (request ∷ []) ∷ []) is (is_packing own endpoint),
  λ same. subst (IsPacking own endpoint (request ∷ [])) (sym same) (is_packing own endpoint),
)

-- ---- there is at most one

pub one_question : QuestionIsUnique
one_question a b w question other h k =
    let one : h.one ≡ k.one = same_Some h.one k.one (sym h.is_one ∙ k.is_one) in
    let two : h.two ≡ k.two = same_Some h.two k.two (sym h.is_two ∙ k.is_two) in
    let place : h.place ≡ k.place = same_Some h.place k.place (sym h.is_place ∙ k.is_place) in
    let least : AreLeast h.one k.e h.two k.f = subst (λ (m : Member). AreLeast m k.e h.two k.f) (sym one) (subst (λ (m : Member). AreLeast k.one k.e m k.f) (sym two) k.least) in
    let same = least_is_one h.one h.two h.e h.f k.e k.f h.least least in
    let made : event.Inject a h.e (address_of_target (record { place = h.place; endpoint = h.f })) false (datagram_of h.two.router.id h.f (request ∷ []))
    ≡ event.Inject a k.e (address_of_target (record { place = k.place; endpoint = k.f })) false (datagram_of k.two.router.id k.f (request ∷ []))
    = λ i. event.Inject a (same.0 i) (address_of_target (record { place = place i; endpoint = same.1 i })) false (datagram_of (two i).router.id (same.1 i) (request ∷ [])) in
    h.gives ∙ made ∙ sym k.gives

-- ---- there is one, or a refusal

abbrev refused_by : Option Member → Option Member → Option ℕ
refused_by one two =
    option_or (option_or (of_router (λ _. None) one) (option_or (of_router (λ _. None) two) (option_or (of_router unless_running one) (of_router unless_running two))))
    (of_router (λ m. of_router (unless_joined m) two) one)

abbrev refused_at : Bool → Bool → Option (EpId × EpId) → Option ℕ
refused_at one two joint = option_or (option_or (code_if 12 (not one)) (code_if 12 (not two))) (code_if 18 (is_none joint))

not_refused : (one two : Bool) (joint : Option (EpId × EpId)) → refused_at one two joint ≡ None → (one ≡ true) × (two ≡ true) × ((p : EpId × EpId) × (joint ≡ Some p))
not_refused true true (Some p) h = (refl, refl, (p, refl))
not_refused true true None h = absurd (cc)
not_refused true false joint h = absurd (cc)
not_refused false two joint h = absurd (cc)

-- what a router that is found is
module _ (w : Parts) (sound : IsSoundWorld w) where
  pub ports_of : (name : List ℕ) (m : Member) → member_named name w ≡ Some m → ArePorts m.router.ports
  ports_of name m is =
      let there = found_passes (is_named name) w.members m is in
      (All-contains (IsSoundMember w.moment) w.members m sound there.0).router.well.ports

-- and it has a place
placed : {A : Type 0} (p : A → Bool) (xs : List A) (x : A) → find p xs ≡ Some x → (i : ℕ) × (position p xs ≡ Some i)
placed p xs x is =
    let at : slice_get xs (position_or_len p xs) ≡ Some x = sym (find_at p xs) ∙ is in
    let within = lt-ltb (position_or_len p xs) (length xs) (slice_get_within xs (position_or_len p xs) x at) in
    (position_or_len p xs, ap (λ (b : Bool). cond b (Some (position_or_len p xs)) None) within)

-- what is there where nothing is refused
pub there_are : (a b : Name) (w : Parts) (one two : Member) → member_named (name_text a) w ≡ Some one → member_named (name_text b) w ≡ Some two → unless_exchange a b w ≡ None
    → (one.running ≡ true) × (two.running ≡ true) × ((p : EpId × EpId) × (joint_of one two ≡ Some p)) × ((place : ℕ) × (router_place (name_text b) w ≡ Some place))
there_are a b w one two is_one is_two none =
    let members : unless_exchange a b w ≡ refused_by (Some one) (Some two) = λ i. refused_by (is_one i) (is_two i) in
    let so = not_refused one.running two.running (joint_of one two) (sym members ∙ none) in
    (so.0, so.1, so.2, placed (is_named (name_text b)) w.members two is_two)

pub question_is : (a b : Name) (w : Parts) (one two : Member) → IsSoundWorld w → member_named (name_text a) w ≡ Some one → member_named (name_text b) w ≡ Some two → unless_exchange a b w ≡ None
    → (e f : EpId) (place : ℕ) → joint_of one two ≡ Some (e, f) → router_place (name_text b) w ≡ Some place
    → (from : Addr) → from ≡ address_of_target (record { place = place; endpoint = f }) → (bytes : List ℕ)
    → bytes ≡ datagram_of two.router.id f (request ∷ []) → IsQuestion a b w (event.Inject a e from false bytes)
question_is a b w one two sound is_one is_two none e f place joint is_place from is_from bytes are_bytes =
    let so = there_are a b w one two is_one is_two none in
    record {
      one = one;
      two = two;
      place = place;
      is_one = is_one;
      is_two = is_two;
      is_place = is_place;
      one_runs = so.0;
      two_runs = so.1;
      e = e;
      f = f;
      least = least_from one two e f (ports_of w sound (name_text a) one is_one) (ports_of w sound (name_text b) two is_two) joint;
      gives = λ i. event.Inject a e (is_from i) false (are_bytes i);
    }

pub asked : (a b : Name) (w : Parts) → IsSoundWorld w → unless_exchange a b w ≡ None → (question : WEvent) × IsQuestion a b w question
asked a b w sound none = by_members (member_named (name_text a) w) (member_named (name_text b) w) refl refl none
  where
    by_members : (one two : Option Member) → member_named (name_text a) w ≡ one → member_named (name_text b) w ≡ two → refused_by one two ≡ None → (question : WEvent) × IsQuestion a b w question
    by_members None two is_one is_two h = absurd (cc)
    by_members (Some one) None is_one is_two h = absurd (cc)
    by_members (Some one) (Some two) is_one is_two h =
        let so = not_refused one.running two.running (joint_of one two) h in
        let place = placed (is_named (name_text b)) w.members two is_two in
        let e = so.2.0.0 in
        let f = so.2.0.1 in
        let least = least_from one two e f (ports_of w sound (name_text a) one is_one) (ports_of w sound (name_text b) two is_two) so.2.1 in (
          event.Inject a e (address_of_target (record { place = place.0; endpoint = f })) false (datagram_of two.router.id f (request ∷ [])),
          record { one = one; two = two; place = place.0; is_one = is_one; is_two = is_two; is_place = place.1; one_runs = so.0; two_runs = so.1; e = e; f = f; least = least; gives = refl },
        )

pub accepted : (a b : Name) (w : Parts) (question : WEvent) → IsSoundWorld w → IsQuestion a b w question → unless_exchange a b w ≡ None
accepted a b w question sound h =
    let joint = joint_is h.one h.two h.e h.f (ports_of w sound (name_text a) h.one h.is_one) (ports_of w sound (name_text b) h.two h.is_two) h.least in
    let members : unless_exchange a b w ≡ refused_by (Some h.one) (Some h.two) = λ i. refused_by (h.is_one i) (h.is_two i) in
    let tests : refused_at h.one.running h.two.running (joint_of h.one h.two) ≡ None = λ i. refused_at (h.one_runs i) (h.two_runs i) (joint i) in
    members ∙ tests

pub asked_or_refused : ((w : Parts) → IsReplayed w → IsSoundWorld w) → AsksOrIsRefused
asked_or_refused sound a b w replayed =
    (asked a b w (sound w replayed), λ h. accepted a b w h.0 (sound w replayed) h.1)
