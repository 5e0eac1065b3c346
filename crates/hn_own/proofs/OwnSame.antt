-- When two routers' own items are the same.
use Rattle.hn_base.proofs.Names.{◌≡◌, ◌∙◌, ℕ, Bool, true, false, List, Option, Decides, sym, ap, ◌==◌, ◌&&◌, nat_eq, pointwise, option_eq, false≢true, Decides-and, Decides-like, Decides-eqb}
use Rattle.hn_base.proofs.Names.{slice_eq-Decides, PlainPrefix}
use Rattle.hn_own.proofs.Names.{Caps, PeerLink, AssignedPrefix, OwnAddress, OwnItems, OwnPrefix}
use Rattle.hn_base.proofs.DecidingTests.{option_decided}
use Rattle.hn_base.proofs.KnownByFields.{same_caps}
use Rattle.hn_base.proofs.Prefixes.{prefix_decided}
use Rattle.hn_data.specs.Peers.{peer_link}

-- ---- capabilities

pub caps_decided : (a b : Caps) → Decides (a.m == b.m && (a.p == b.p && (a.h == b.h && a.l == b.l))) (a ≡ b)
caps_decided a b =
    let numbers = Decides-and _ _ (Decides-eqb a.m b.m) (Decides-and _ _ (Decides-eqb a.p b.p) (Decides-and _ _ (Decides-eqb a.h b.h) (Decides-eqb a.l b.l))) in
    Decides-like _
    (λ (same : (a.m ≡ b.m) × ((a.p ≡ b.p) × ((a.h ≡ b.h) × (a.l ≡ b.l)))). same_caps a b same.0 same.1.0 same.1.1.0 same.1.1.1)
    (λ (same : a ≡ b). (ap (λ (c : Caps). c.m) same, (ap (λ (c : Caps). c.p) same, (ap (λ (c : Caps). c.h) same, ap (λ (c : Caps). c.l) same))))
    numbers

-- ---- links

same_link : (a b : PeerLink) → a.endpoint.0 ≡ b.endpoint.0 → a.peer.0 ≡ b.peer.0 → a.peer_endpoint.0 ≡ b.peer_endpoint.0 → a ≡ b
same_link a b same_endpoint same_peer same_other =
    ap (λ (n : ℕ). peer_link a.peer.0 a.peer_endpoint.0 n) same_endpoint ∙ ap (λ (n : ℕ). peer_link n a.peer_endpoint.0 b.endpoint.0) same_peer
    ∙ ap (λ (n : ℕ). peer_link b.peer.0 n b.endpoint.0) same_other

pub link_decided : (a b : PeerLink) → Decides (a.endpoint.0 == b.endpoint.0 && (a.peer.0 == b.peer.0 && a.peer_endpoint.0 == b.peer_endpoint.0)) (a ≡ b)
link_decided a b =
    let numbers = Decides-and _ _ (Decides-eqb a.endpoint.0 b.endpoint.0) (Decides-and _ _ (Decides-eqb a.peer.0 b.peer.0) (Decides-eqb a.peer_endpoint.0 b.peer_endpoint.0)) in
    Decides-like _
    (λ (same : (a.endpoint.0 ≡ b.endpoint.0) × ((a.peer.0 ≡ b.peer.0) × (a.peer_endpoint.0 ≡ b.peer_endpoint.0))). same_link a b same.0 same.1.0 same.1.1)
    (λ (same : a ≡ b). (ap (λ (l : PeerLink). l.endpoint.0) same, (ap (λ (l : PeerLink). l.peer.0) same, ap (λ (l : PeerLink). l.peer_endpoint.0) same)))
    numbers

-- ---- prefixes

abbrev own_with : PlainPrefix → Option ℕ → Option ℕ → OwnPrefix
own_with prefix valid preferred = record { prefix = prefix; valid_until = valid; preferred_until = preferred }

same_own : (a b : OwnPrefix) → a.prefix ≡ b.prefix → a.valid_until ≡ b.valid_until → a.preferred_until ≡ b.preferred_until → a ≡ b
same_own a b prefix valid preferred =
    ap (λ (p : PlainPrefix). own_with p a.valid_until a.preferred_until) prefix
    ∙ ap (λ (end : Option ℕ). own_with b.prefix end a.preferred_until) valid ∙ ap (own_with b.prefix b.valid_until) preferred

pub own_decided : (a b : OwnPrefix)
    → Decides ((a.prefix.bits == b.prefix.bits && a.prefix.len == b.prefix.len) && (option_eq nat_eq a.valid_until b.valid_until && option_eq nat_eq a.preferred_until b.preferred_until)) (a ≡ b)
own_decided a b =
    let parts = Decides-and _ _ (prefix_decided a.prefix b.prefix) (Decides-and _ _ (option_decided a.valid_until b.valid_until) (option_decided a.preferred_until b.preferred_until)) in
    Decides-like _
    (λ (same : (a.prefix ≡ b.prefix) × ((a.valid_until ≡ b.valid_until) × (a.preferred_until ≡ b.preferred_until))). same_own a b same.0 same.1.0 same.1.1)
    (λ (same : a ≡ b). (ap (λ (p : OwnPrefix). p.prefix) same, (ap (λ (p : OwnPrefix). p.valid_until) same, ap (λ (p : OwnPrefix). p.preferred_until) same)))
    parts

abbrev assigned_with : ℕ → ℕ → PlainPrefix → AssignedPrefix
assigned_with endpoint priority prefix = record { endpoint = record { 0 = endpoint }; priority = priority; prefix = prefix }

same_assigned : (a b : AssignedPrefix) → a.endpoint.0 ≡ b.endpoint.0 → a.priority ≡ b.priority → a.prefix ≡ b.prefix → a ≡ b
same_assigned a b endpoint priority prefix =
    ap (λ (n : ℕ). assigned_with n a.priority a.prefix) endpoint ∙ ap (λ (n : ℕ). assigned_with b.endpoint.0 n a.prefix) priority ∙ ap (assigned_with b.endpoint.0 b.priority) prefix

pub assigned_decided : (a b : AssignedPrefix) → Decides (a.endpoint.0 == b.endpoint.0 && (a.priority == b.priority && (a.prefix.bits == b.prefix.bits && a.prefix.len == b.prefix.len))) (a ≡ b)
assigned_decided a b =
    let parts = Decides-and _ _ (Decides-eqb a.endpoint.0 b.endpoint.0) (Decides-and _ _ (Decides-eqb a.priority b.priority) (prefix_decided a.prefix b.prefix)) in
    Decides-like _
    (λ (same : (a.endpoint.0 ≡ b.endpoint.0) × ((a.priority ≡ b.priority) × (a.prefix ≡ b.prefix))). same_assigned a b same.0 same.1.0 same.1.1)
    (λ (same : a ≡ b). (ap (λ (p : AssignedPrefix). p.endpoint.0) same, (ap (λ (p : AssignedPrefix). p.priority) same, ap (λ (p : AssignedPrefix). p.prefix) same)))
    parts

-- ---- addresses

abbrev address_with : ℕ → ℕ → OwnAddress
address_with endpoint address = (record { 0 = endpoint }, address)

same_address : (a b : OwnAddress) → a.0.0 ≡ b.0.0 → a.1 ≡ b.1 → a ≡ b
same_address a b endpoint address = ap (λ (n : ℕ). address_with n a.1) endpoint ∙ ap (address_with b.0.0) address

pub address_decided : (a b : OwnAddress) → Decides (a.0.0 == b.0.0 && a.1 == b.1) (a ≡ b)
address_decided a b =
    Decides-like _
    (λ (same : (a.0.0 ≡ b.0.0) × (a.1 ≡ b.1)). same_address a b same.0 same.1)
    (λ (same : a ≡ b). (ap (λ (x : OwnAddress). x.0.0) same, ap (λ (x : OwnAddress). x.1) same))
    (Decides-and _ _ (Decides-eqb a.0.0 b.0.0) (Decides-eqb a.1 b.1))

-- ---- all five

-- what `==` says of the lists that two slices show
pub lists_decided : {A : Type 0} {E : A → A → Bool} → ((a b : A) → Decides (E a b) (a ≡ b)) → (xs ys shown other : List A) (r : Bool)
    → r ≡ pointwise E shown other → shown ≡ xs → other ≡ ys → Decides r (xs ≡ ys)
lists_decided each xs ys shown other r is same_xs same_ys =
    Decides-like r (λ (same : shown ≡ other). sym same_xs ∙ same ∙ same_ys) (λ (same : xs ≡ ys). same_xs ∙ same ∙ sym same_ys) (slice_eq-Decides each shown other r is)

-- a test that passed, and the next one
pub then_next : {P Q : Type 0} (r test next : Bool) → Decides test P → Decides next Q → test ≡ true → r ≡ next → Decides r (P × Q)
then_next r test next first second is same = (λ e. (first.0 is, second.0 (sym same ∙ e)), λ both. same ∙ second.1 both.1)

-- a test that failed
pub else_false : {P : Type 0} (Q : Type 0) (r test : Bool) → Decides test P → test ≡ false → r ≡ test → Decides r (P × Q)
else_false Q r test first is same = (λ e. absurd (false≢true (sym is ∙ sym same ∙ e)), λ both. absurd (false≢true (sym is ∙ first.1 both.0)))

abbrev items_with : Caps → List PeerLink → List OwnPrefix → List AssignedPrefix → List OwnAddress → OwnItems
items_with caps links delegated assigned addresses = record { caps = caps; links = links; delegated = delegated; assigned = assigned; addresses = addresses }

same_items : (a b : OwnItems) → a.caps ≡ b.caps → a.links ≡ b.links → a.delegated ≡ b.delegated → a.assigned ≡ b.assigned → a.addresses ≡ b.addresses → a ≡ b
same_items a b caps links delegated assigned addresses =
    ap (λ (c : Caps). items_with c a.links a.delegated a.assigned a.addresses) caps ∙ ap (λ (ls : List PeerLink). items_with b.caps ls a.delegated a.assigned a.addresses) links
    ∙ ap (λ (ps : List OwnPrefix). items_with b.caps b.links ps a.assigned a.addresses) delegated ∙ ap (λ (cs : List AssignedPrefix). items_with b.caps b.links b.delegated cs a.addresses) assigned
    ∙ ap (items_with b.caps b.links b.delegated b.assigned) addresses

pub items_decided : (a b : OwnItems) (r : Bool) → Decides r (((((a.caps ≡ b.caps) × (a.links ≡ b.links)) × (a.delegated ≡ b.delegated)) × (a.assigned ≡ b.assigned)) × (a.addresses ≡ b.addresses))
    → Decides r (a ≡ b)
items_decided a b r all =
    Decides-like r
    (λ (same : ((((a.caps ≡ b.caps) × (a.links ≡ b.links)) × (a.delegated ≡ b.delegated)) × (a.assigned ≡ b.assigned)) × (a.addresses ≡ b.addresses)).
    same_items a b same.0.0.0.0 same.0.0.0.1 same.0.0.1 same.0.1 same.1)
    (λ (same : a ≡ b). (
      (((ap (λ (i : OwnItems). i.caps) same, ap (λ (i : OwnItems). i.links) same), ap (λ (i : OwnItems). i.delegated) same), ap (λ (i : OwnItems). i.assigned) same),
      ap (λ (i : OwnItems). i.addresses) same,
    ))
    all
