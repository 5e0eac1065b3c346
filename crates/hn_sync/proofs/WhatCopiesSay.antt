-- The copies of what the two routers of an exchange send each other, with what they say.
use Rattle.hn_base.proofs.Names.{◌≡◌, ◌∙◌, ◌<◌, ◌+◌, ◌^◌, ℕ, zero, suc, Bool, true, false, List, [], ◌∷◌, ◌++◌, map, filter, slice_get, Contains, Some, sym, ap, subst, refl, inl, inr, arith}
use Rattle.hn_base.proofs.Names.{append_assoc, eq-eqb, Contains-append_left, Contains-append_right, Contains-append_cases, same_Some}
use Rattle.hn_sync.proofs.Names.{◌==◌, ◌&&◌, nothing_in, Contains-map, Contains-from_map, in_filter, from_filter, EpId, NodeId, endpoints_of, Outgoing, MailCopy, Target, Member, address_of_target}
use Rattle.hn_sync.proofs.Names.{on_link_at, on_link, gets, copy_for, copies_on, copies_of_send, copies_of, is_on, link_of}
use Rattle.hn_sync.proofs.Between.{HasPorts, same_address, has_this, target_fits}
use Rattle.hn_sync.proofs.Sayings.{Saying, SaysIn, IsPart, AreSaid}

-- a copy, what it says, and whether it goes to the router that asks
pub record Letter : Type 0 where
  pub copy : MailCopy
  pub group : List Saying
  pub to_asker : Bool

abbrev pub copy_of : Letter → MailCopy
copy_of l = l.copy

-- ---- who is on a link

pub on_link_there : (link k : ℕ) (ms : List Member) (i : ℕ) (m : Member) (e : EpId) → slice_get ms i ≡ Some m → Contains (endpoints_of m.router.ports) e → is_on link m e ≡ true
    → Contains (on_link link k ms) (record { place = k + i; endpoint = e })
on_link_there link k [] i m e at there on = absurd (cc)
on_link_there link k (x ∷ ms) zero m e at there on =
    let same : x ≡ m = same_Some x m at in
    let place : k + 0 ≡ k = omega arith in
    let one : Contains (on_link_at link k m) (record { place = k; endpoint = e }) =
    Contains-map (λ (y : EpId). let t : Target = record { place = k; endpoint = y } in t) (filter (is_on link m) (endpoints_of m.router.ports)) e
    (in_filter (is_on link m) (endpoints_of m.router.ports) e there on) in
    subst (λ (n : ℕ). Contains (on_link link k (x ∷ ms)) (record { place = n; endpoint = e })) (sym place)
    (Contains-append_left (on_link_at link k x) (on_link link (suc k) ms) (record { place = k; endpoint = e })
    (subst (λ (y : Member). Contains (on_link_at link k y) (record { place = k; endpoint = e })) (sym same) one))
on_link_there link k (x ∷ ms) (suc i) m e at there on =
    let place : suc k + i ≡ k + suc i = omega arith in
    Contains-append_right (on_link_at link k x) (on_link link (suc k) ms) (record { place = k + suc i; endpoint = e })
    (subst (λ (n : ℕ). Contains (on_link link (suc k) ms) (record { place = n; endpoint = e })) place (on_link_there link (suc k) ms i m e at there on))

-- ---- what a router sends to another one on its link

pub map_letters : (xs ys : List Letter) → map copy_of (xs ++ ys) ≡ map copy_of xs ++ map copy_of ys
map_letters [] ys = refl
map_letters (x ∷ xs) ys = ap (λ rest. x.copy ∷ rest) (map_letters xs ys)

module _ (members : List Member) (p q : Target) (m : Member) (link : ℕ) (to_asker : Bool) (is_link : link_of p.endpoint m ≡ Some link) (q_there : Contains (on_link link 0 members) q)
    (ports : (x : Member) → Contains members x → HasPorts x) (q_fits : q.endpoint.0 < 2 ^ 32) where
  targets : List Target
  targets = filter (gets p (Some (address_of_target q))) (on_link link 0 members)

  target_is : (t : Target) → Contains targets t → t ≡ q
  unfolding targets
  target_is t there =
      let got = from_filter (gets p (Some (address_of_target q))) (on_link link 0 members) t there in
      let same = has_this ((address_of_target t).port == (address_of_target q).port) (address_of_target t).ip (address_of_target q).ip got.1 in
      same_address t q (target_fits link 0 members t ports got.0) q_fits same

  is_target : Contains targets q
  unfolding targets
  is_target =
      let ip = eq-eqb (address_of_target q).ip (address_of_target q).ip refl in
      let passes : ((address_of_target q).ip == (address_of_target q).ip && (address_of_target q).port == (address_of_target q).port) ≡ true = ap (λ (b : Bool). b && true) ip in
      in_filter (gets p (Some (address_of_target q))) (on_link link 0 members) q q_there passes

  letter_of : List Saying → List ℕ → Target → Letter
  letter_of group bytes t = record { copy = copy_for p (Some (address_of_target q)) bytes t; group = group; to_asker = to_asker }

  letters_at : List Saying → List ℕ → List Letter
  letters_at group bytes = map (letter_of group bytes) targets

  copies_at : (group : List Saying) (bytes : List ℕ) (ts : List Target) → map (copy_for p (Some (address_of_target q)) bytes) ts ≡ map copy_of (map (letter_of group bytes) ts)
  unfolding letter_of
  copies_at group bytes [] = refl
  copies_at group bytes (t ∷ ts) = ap (λ rest. copy_for p (Some (address_of_target q)) bytes t ∷ rest) (copies_at group bytes ts)

  abbrev out : List ℕ → Outgoing
  out bytes = record { endpoint = p.endpoint; to = Some (address_of_target q); bytes = bytes }

  send_copies : (group : List Saying) (bytes : List ℕ) → copies_of_send members p.place m (out bytes) ≡ map copy_of (letters_at group bytes)
  unfolding targets letters_at
  send_copies group bytes = ap (copies_on members p (out bytes)) is_link ∙ copies_at group bytes targets

  pub record IsGood (own : NodeId) (said : List Saying) (l : Letter) : Type 0 where
    pub goes : l.copy.to ≡ q
    pub comes : l.copy.from ≡ address_of_target p
    pub unicast : l.copy.multicast ≡ false
    pub says : SaysIn own p.endpoint l.group l.copy.bytes
    pub part : IsPart l.group said
    pub side : l.to_asker ≡ to_asker

  pub record IsSent (own : NodeId) (said : List Saying) (datagrams : List (List ℕ)) : Type 0 where
    pub letters : List Letter
    pub copies : copies_of members p.place m (map (λ bytes. record { endpoint = p.endpoint; to = Some (address_of_target q); bytes = bytes }) datagrams) ≡ map copy_of letters
    pub good : (l : Letter) → Contains letters l → IsGood own said l
    pub each : (s : Saying) → Contains said s → (l : Letter) × Contains letters l × Contains l.group s

  pub sent : (own : NodeId) (said : List Saying) (datagrams : List (List ℕ)) → AreSaid own p.endpoint said datagrams → IsSent own said datagrams
  unfolding letters_at letter_of targets
  sent own said [] h = record {
    letters = [];
    copies = refl;
    good = λ l there. absurd (nothing_in l there);
    each = λ s there. absurd (nothing_in s (subst (λ (xs : List Saying). Contains xs s) h there));
  }
  sent own said (d ∷ ds) h =
      let rest = sent own h.1 ds h.4 in
      record {
        letters = letters_at h.0 d ++ rest.letters;
        copies = (λ i. send_copies h.0 d i ++ rest.copies i) ∙ sym (map_letters (letters_at h.0 d) rest.letters);
        good = λ l there. elim (Contains-append_cases (letters_at h.0 d) rest.letters l there) [
          | inl here ↦
              let from = Contains-from_map (letter_of h.0 d) targets l here in
              let is = target_is from.0 from.1 in
              subst (IsGood own said) from.2 (record { goes = is; comes = refl; unicast = refl; says = h.3; part = record { front = []; rest = h.1; parts = h.2 }; side = refl })
          | inr later ↦
              let k = rest.good l later in
              record {
                goes = k.goes;
                comes = k.comes;
                unicast = k.unicast;
                says = k.says;
                part = record {
                  front = h.0 ++ k.part.front;
                  rest = k.part.rest;
                  parts = h.2 ∙ (ap (λ (xs : List Saying). h.0 ++ xs) k.part.parts ∙ sym (append_assoc h.0 k.part.front (l.group ++ k.part.rest)));
                };
                side = k.side;
              }
        ];
        each = λ s there. elim (Contains-append_cases h.0 h.1 s (subst (λ (xs : List Saying). Contains xs s) h.2 there)) [
          | inl here ↦ (letter_of h.0 d q, Contains-append_left (letters_at h.0 d) rest.letters (letter_of h.0 d q) (Contains-map (letter_of h.0 d) targets q is_target), here)
          | inr later ↦ (let k = rest.each s later in (k.0, Contains-append_right (letters_at h.0 d) rest.letters k.0 k.1, k.2))
        ];
      }
