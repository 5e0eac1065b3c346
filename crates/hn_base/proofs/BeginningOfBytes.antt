-- What stands at the beginning of some bytes, as one thing: nothing, an element and the bytes after it, or a fault with
-- its offset and its cause. No two readings that agree with it hold of the same bytes.
use Rattle.hn_base.proofs.Names.{◌≡◌, ◌∙◌, ℕ, List, [], ◌++◌, sym, ap}

pub data Outcome (X : Type 0) : Type 0 where
  Ends : Outcome X
  Begins : X → List ℕ → Outcome X
  Faults : ℕ → ℕ → Outcome X

begun_is : {X : Type 0} (a b : X) (x y : List ℕ) → Begins a x ≡ Begins b y → (a ≡ b) × (x ≡ y)
begun_is a b x y e = (cc, cc)

fault_is : {X : Type 0} (p q v w : ℕ) → ◌≡◌ {A = Outcome X} (Faults p v) (Faults q w) → (p ≡ q) × (v ≡ w)
fault_is p q v w e = (cc, cc)

-- A function tells what stands there: nothing where there are no bytes, each element where its spelling stands, and each
-- fault where it lies.
pub record IsTold {X : Type 0} (spelling : X → List ℕ) (IsOne : X → Type 0) (IsFault : List ℕ → ℕ → ℕ → Type 0) (outcome : List ℕ → Outcome X) : Type 0 where
  pub nothing : outcome [] ≡ Ends
  pub begins : (a : X) (rest : List ℕ) → IsOne a → outcome (spelling a ++ rest) ≡ Begins a rest
  pub faults : (bytes : List ℕ) (offset why : ℕ) → IsFault bytes offset why → outcome bytes ≡ Faults offset why

module _ {X : Type 0} (spelling : X → List ℕ) (IsOne : X → Type 0) (IsFault : List ℕ → ℕ → ℕ → Type 0) (outcome : List ℕ → Outcome X) (told : IsTold spelling IsOne IsFault outcome) where
  pub same_begin : (a b : X) (x y : List ℕ) → IsOne a → IsOne b → spelling a ++ x ≡ spelling b ++ y → (a ≡ b) × (x ≡ y)
  same_begin a b x y a_is b_is e = begun_is a b x y (sym (told.begins a x a_is) ∙ ap outcome e ∙ told.begins b y b_is)

  pub same_fault : (bytes : List ℕ) (p q v w : ℕ) → IsFault bytes p v → IsFault bytes q w → (p ≡ q) × (v ≡ w)
  same_fault bytes p q v w f g = fault_is {X = X} p q v w (sym (told.faults bytes p v f) ∙ told.faults bytes q w g)

  -- where a fault lies, no element begins
  pub no_begin : (bytes rest : List ℕ) (offset why : ℕ) (a : X) → IsFault bytes offset why → IsOne a → bytes ≡ spelling a ++ rest → ⊥
  no_begin bytes rest offset why a f is e =
      let clash : Faults offset why ≡ Begins a rest = sym (told.faults bytes offset why f) ∙ ap outcome e ∙ told.begins a rest is in
      cc

  -- where a fault lies, bytes are
  pub not_empty : (bytes : List ℕ) (offset why : ℕ) → IsFault bytes offset why → bytes ≡ [] → ⊥
  not_empty bytes offset why f e =
      let clash : ◌≡◌ {A = Outcome X} (Faults offset why) Ends = sym (told.faults bytes offset why f) ∙ ap outcome e ∙ told.nothing in
      cc

  -- where an element begins, bytes are
  pub some_bytes : (a : X) (rest : List ℕ) → IsOne a → [] ≡ spelling a ++ rest → ⊥
  some_bytes a rest is e =
      let clash : Ends ≡ Begins a rest = sym told.nothing ∙ ap outcome e ∙ told.begins a rest is in
      cc
