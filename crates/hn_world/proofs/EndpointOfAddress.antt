-- The endpoint that has an address is of one router.
use Rattle.hn_base.proofs.Names.{◌≡◌, ◌≢◌, ◌<◌, ◌≤◌, ◌+◌, ◌^◌, ◌∙◌, ◌⊎◌, ℕ, zero, suc, Bool, true, false, cond, Option, None, Some, sym, List, [], ◌∷◌, ◌++◌, length, map, filter, get_or, inl, inr}
use Rattle.hn_base.proofs.Names.{refl, ap, arith, cond_both, none-some, same_Some, append-nil, All-head, All-tail, filter-append}
use Rattle.hn_world.proofs.Names.{All, EpId, Port, Target, Member, gets, on_link_at, on_link, is_on}
use Rattle.std.specs.Prelude.{IsTrue}
use Rattle.hn_base.specs.declared.addr.Addr.{Addr}
use Rattle.hn_own.specs.Ports.{ArePorts}
use Rattle.hn_world.specs.Mail.{has_address}

abbrev HasPorts : Member → Type 0
HasPorts m = ArePorts m.router.ports

abbrev IsNumber : Port → Type 0
IsNumber port = (0 < port.id.0) × (port.id.0 < 2 ^ 32)

-- what passes is of the router at one place
module _ (p : Target → Bool) (link k count : ℕ) (fails : (i : ℕ) (e : EpId) → i < count → e.0 < 2 ^ 32 → i ≢ k → p (record { place = i; endpoint = e }) ≡ false) where
  none_of : (q : EpId → Bool) (i : ℕ) (ports : List Port) → i < count → i ≢ k → All IsNumber ports
      → filter p (map (λ e. record { place = i; endpoint = e }) (filter q (map (λ port. port.id) ports))) ≡ []
  none_of q i [] lt other all = refl
  none_of q i (port ∷ ports) lt other all =
      let to : EpId → Target = λ e. record { place = i; endpoint = e } in
      let ids : List EpId = map (λ (port : Port). port.id) ports in
      let more : List Target = filter p (map to (filter q ids)) in
      let rest : more ≡ [] = none_of q i ports lt other (All-tail IsNumber port ports all) in
      let no : p (to port.id) ≡ false = fails i port.id lt (All-head IsNumber port ports all).1 other in
      cond_both (q port.id) (port.id ∷ filter q ids) (filter q ids) (λ (es : List EpId). filter p (map to es) ≡ [])
      (λ _. ap (λ (b : Bool). cond b (to port.id ∷ more) more) no ∙ rest) (λ _. rest)

  none_at : (i : ℕ) (m : Member) → i < count → i ≢ k → HasPorts m → filter p (on_link_at link i m) ≡ []
  none_at i m lt other ports = none_of (is_on link m) i m.router.ports lt other ports.numbered

  pub nowhere : (place : ℕ) (xs : List Member) → place + length xs ≤ count → (k < place) ⊎ (place + length xs ≤ k) → All HasPorts xs → filter p (on_link link place xs) ≡ []
  nowhere place [] le apart all = refl
  nowhere place (m ∷ xs) le apart all =
      let other : place ≢ k = λ is. elim apart [ inl lt ↦ omega (arith, lt, is) | inr past ↦ omega (arith, past, is) ] in
      let later : (k < suc place) ⊎ (suc place + length xs ≤ k) = elim apart [ inl lt ↦ inl (omega (arith, lt)) | inr past ↦ inr (omega (arith, past)) ] in
      let here = none_at place m (omega arith) other (All-head HasPorts m xs all) in
      let rest = nowhere (suc place) xs (omega arith) later (All-tail HasPorts m xs all) in
      filter-append p (on_link_at link place m) (on_link link (suc place) xs) ∙ ap (λ ys. ys ++ filter p (on_link link (suc place) xs)) here ∙ rest

  pub only_there : (place j : ℕ) (xs : List Member) (d : Member) → j < length xs → place + j ≡ k → place + length xs ≤ count → All HasPorts xs
      → filter p (on_link link place xs) ≡ filter p (on_link_at link k (get_or xs j d))
  only_there place j [] d lt is le all = absurd (omega arith)
  only_there place zero (m ∷ xs) d lt is le all =
      let same : place ≡ k = omega arith in
      let here : List Target = filter p (on_link_at link place m) in
      filter-append p (on_link_at link place m) (on_link link (suc place) xs)
      ∙ ap (λ ys. here ++ ys) (nowhere (suc place) xs (omega arith) (inl (omega arith)) (All-tail HasPorts m xs all))
      ∙ append-nil here ∙ ap (λ (n : ℕ). filter p (on_link_at link n m)) same
  only_there place (suc j) (m ∷ xs) d lt is le all =
      let other : place ≢ k = λ same. omega (arith, same, is) in
      filter-append p (on_link_at link place m) (on_link link (suc place) xs)
      ∙ ap (λ ys. ys ++ filter p (on_link link (suc place) xs)) (none_at place m (omega arith) other (All-head HasPorts m xs all))
      ∙ only_there (suc place) j xs d (omega arith) (omega arith) (omega arith) (All-tail HasPorts m xs all)

-- ---- the place that an address tells

-- each endpoint with that address is at the place, if there is one
abbrev pub Tells : Addr → ℕ → Option ℕ → Type 0
Tells to count place = (at : Target) → at.place < count → at.endpoint.0 < 2 ^ 32 → IsTrue (has_address to at) → place ≡ Some at.place

fails_unless : (b : Bool) → (IsTrue b → ⊥) → b ≡ false
fails_unless true never = absurd (never refl)
fails_unless false never = refl

pub has_none : (sender : Target) (to : Addr) (link : ℕ) (xs : List Member) → Tells to (length xs) None → All HasPorts xs → [] ≡ filter (gets sender (Some to)) (on_link link 0 xs)
has_none sender to link xs tells all =
    let n = length xs in
    sym (nowhere (gets sender (Some to)) link n n
    (λ i e lt fits other. fails_unless (has_address to (record { place = i; endpoint = e })) (λ has. none-some i (tells (record { place = i; endpoint = e }) lt fits has)))
    0 xs (omega arith) (inr (omega arith)) all)

pub has_one : (sender : Target) (to : Addr) (link place : ℕ) (xs : List Member) (d : Member) → place < length xs → Tells to (length xs) (Some place) → All HasPorts xs
    → filter (gets sender (Some to)) (on_link_at link place (get_or xs place d)) ≡ filter (gets sender (Some to)) (on_link link 0 xs)
has_one sender to link place xs d lt tells all =
    sym (only_there (gets sender (Some to)) link place (length xs)
    (λ i e within fits other. fails_unless (has_address to (record { place = i; endpoint = e })) (λ has. other (sym (same_Some place i (tells (record { place = i; endpoint = e }) within fits has)))))
    0 place xs d lt (omega arith) (omega arith) all)
