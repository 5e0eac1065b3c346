-- The endpoints that are attached to a link.
use Rattle.hn_base.proofs.Names.{◌≡◌, ℕ, zero, suc, ◌+◌, ◌<◌, Bool, true, false, cond, List, [], ◌∷◌, ◌++◌, length, get_or, take, map, filter, Option, Some, refl, sym, ◌∙◌, ap, arith, add-one}
use Rattle.hn_base.proofs.Names.{append_assoc, ◌==◌, list_any, option_map, option_map_or, cond_both, or_parts, append-nil, map-append, take_more, filter-append}
use Rattle.hn_world.proofs.Names.{find, EpId, Port, endpoints_of, MailCopy, Target, Attachment, is_of, is_on, Member, on_link_at, on_link}

-- with one router more, the first of which has this place
one_more : (link place i : ℕ) (xs : List Member) (d : Member) → i < length xs → on_link link place (take (suc i) xs) ≡ on_link link place (take i xs) ++ on_link_at link (place + i) (get_or xs i d)
one_more link place i [] d lt = absurd (omega arith)
one_more link place zero (x ∷ xs) d lt =
    let same : place ≡ place + 0 = omega arith in
    append-nil (on_link_at link place x) ∙ ap (λ (n : ℕ). on_link_at link n x) same
one_more link place (suc i) (x ∷ xs) d lt =
    let same : suc place + i ≡ place + suc i = omega arith in
    let more = one_more link (suc place) i xs d (omega arith) in
    let here = on_link_at link place x in
    ap (λ ys. here ++ ys) more ∙ ap (λ (n : ℕ). here ++ (on_link link (suc place) (take i xs) ++ on_link_at link n (get_or xs i d))) same
    ∙ sym (append_assoc here (on_link link (suc place) (take i xs)) (on_link_at link (place + suc i) (get_or xs i d)))

on_link-more : (link i : ℕ) (xs : List Member) (d : Member) → i < length xs → on_link link 0 (take (i + 1) xs) ≡ on_link link 0 (take i xs) ++ on_link_at link i (get_or xs i d)
on_link-more link i xs d lt =
    let same : 0 + i ≡ i = omega arith in
    rw add-one (one_more link 0 i xs d lt ∙ ap (λ (n : ℕ). on_link link 0 (take i xs) ++ on_link_at link n (get_or xs i d)) same)

-- and those of them that pass
pub getting-more : (p : Target → Bool) (link i : ℕ) (xs : List Member) (d : Member) → i < length xs
    → filter p (on_link link 0 (take (i + 1) xs)) ≡ filter p (on_link link 0 (take i xs)) ++ filter p (on_link_at link i (get_or xs i d))
getting-more p link i xs d lt = ap (filter p) (on_link-more link i xs d lt) ∙ filter-append p (on_link link 0 (take i xs)) (on_link_at link i (get_or xs i d))

-- ---- the endpoints of a router, one by one

module _ (copy : Target → MailCopy) (gets : Target → Bool) (to : EpId → Target) (on : EpId → Bool) where
  -- the copies for endpoints
  abbrev copies_for : List EpId → List MailCopy
  copies_for es = map copy (filter gets (map to (filter on es)))

  copies_for-append : (es fs : List EpId) → copies_for (es ++ fs) ≡ copies_for es ++ copies_for fs
  copies_for-append es fs =
      ap (λ (xs : List EpId). map copy (filter gets (map to xs))) (filter-append on es fs)
      ∙ ap (λ (ts : List Target). map copy (filter gets ts)) (map-append to (filter on es) (filter on fs))
      ∙ ap (map copy) (filter-append gets (map to (filter on es)) (map to (filter on fs)))
      ∙ map-append copy (filter gets (map to (filter on es))) (filter gets (map to (filter on fs)))

  copies_for-more : (ports : List Port) (i : ℕ) (d : Port) → i < length ports → d ≡ get_or ports i d
      → copies_for (map (λ (q : Port). q.id) (take (i + 1) ports)) ≡ copies_for (map (λ (q : Port). q.id) (take i ports)) ++ copies_for (d.id ∷ [])
  copies_for-more ports i d lt is =
      let ids : List Port → List EpId = map (λ (q : Port). q.id) in
      ap (λ (qs : List Port). copies_for (ids qs)) (take_more ports i d lt ∙ ap (λ (q : Port). take i ports ++ q ∷ []) (sym is))
      ∙ ap copies_for (map-append (λ (q : Port). q.id) (take i ports) (d ∷ []))
      ∙ copies_for-append (ids (take i ports)) (d.id ∷ [])

  -- with one that is on the link, and with one that is not
  pub with_port : (ports : List Port) (i : ℕ) (d : Port) (base before after : List MailCopy) → i < length ports → d ≡ get_or ports i d → on d.id ≡ true
      → before ≡ base ++ map copy (filter gets (map to (filter on (map (λ (q : Port). q.id) (take i ports))))) → after ≡ before ++ map copy (filter gets (to d.id ∷ []))
      → after ≡ base ++ map copy (filter gets (map to (filter on (map (λ (q : Port). q.id) (take (i + 1) ports)))))
  with_port ports i d base before after lt is passes before_is after_is =
      let past = copies_for (map (λ (q : Port). q.id) (take i ports)) in
      let one : copies_for (d.id ∷ []) ≡ map copy (filter gets (to d.id ∷ [])) = ap (λ (b : Bool). map copy (filter gets (map to (cond b (d.id ∷ []) [])))) passes in
      after_is ∙ ap (λ (cs : List MailCopy). cs ++ map copy (filter gets (to d.id ∷ []))) before_is
      ∙ append_assoc base past (map copy (filter gets (to d.id ∷ [])))
      ∙ ap (λ (cs : List MailCopy). base ++ (past ++ cs)) (sym one)
      ∙ ap (λ (cs : List MailCopy). base ++ cs) (sym (copies_for-more ports i d lt is))

  pub without_port : (ports : List Port) (i : ℕ) (d : Port) (base before after : List MailCopy) → i < length ports → d ≡ get_or ports i d → on d.id ≡ false
      → before ≡ base ++ map copy (filter gets (map to (filter on (map (λ (q : Port). q.id) (take i ports))))) → after ≡ before
      → after ≡ base ++ map copy (filter gets (map to (filter on (map (λ (q : Port). q.id) (take (i + 1) ports)))))
  without_port ports i d base before after lt is fails before_is after_is =
      let past = copies_for (map (λ (q : Port). q.id) (take i ports)) in
      let none : copies_for (d.id ∷ []) ≡ [] = ap (λ (b : Bool). map copy (filter gets (map to (cond b (d.id ∷ []) [])))) fails in
      after_is ∙ before_is
      ∙ ap (λ (cs : List MailCopy). base ++ cs) (sym (copies_for-more ports i d lt is ∙ ap (λ (cs : List MailCopy). past ++ cs) none ∙ append-nil past))

-- ---- a router with no attachment to a link

none_found : (link : ℕ) (e : EpId) (all : List Attachment) → list_any (λ a. a.link == link) all ≡ false
    → option_map_or (λ l. l == link) (option_map (λ (a : Attachment). a.link) (find (is_of e) all)) false ≡ false
none_found link e [] none = refl
none_found link e (a ∷ all) none =
    let parts = or_parts (a.link == link) (list_any (λ (b : Attachment). b.link == link) all) none in
    cond_both (is_of e a) (Some a) (find (is_of e) all) (λ (o : Option Attachment). option_map_or (λ l. l == link) (option_map (λ (b : Attachment). b.link) o) false ≡ false)
    (λ _. parts.0) (λ _. none_found link e all parts.1)

none_passes : (p : EpId → Bool) → ((e : EpId) → p e ≡ false) → (es : List EpId) → filter p es ≡ []
none_passes p each [] = refl
none_passes p each (e ∷ es) =
    cond_both (p e) (e ∷ filter p es) (filter p es) (λ (l : List EpId). l ≡ [])
    (λ yes. let no = each e in absurd cc) (λ _. none_passes p each es)

-- no endpoint of it is there
pub none_on_link : (link place : ℕ) (m : Member) → list_any (λ a. a.link == link) m.attachments ≡ false → on_link_at link place m ≡ []
none_on_link link place m none =
    let to : EpId → Target = λ e. record { place = place; endpoint = e } in
    ap (map to) (none_passes (is_on link m) (λ e. none_found link e m.attachments none) (endpoints_of m.router.ports))
