-- Where the first byte of a kind stands: in one place.
use Rattle.hn_base.proofs.Names.{◌≡◌, ◌≢◌, ℕ, ◌+◌, ◌<◌, List, [], ◌∷◌, ◌++◌, length, get_or, take, drop, refl, sym, ap, subst, ◌∙◌, AllByRecursion, drop_more, Lacks, SplitsAt}
use Rattle.hn_base.proofs.Names.{take-append-drop}
use Rattle.hn_base.proofs.EachByRecursion.{AllByRecursion-append, AllByRecursion-take_more, AllByRecursion-weaker}

pub Lacks-append : (byte : ℕ) (xs ys : List ℕ) → Lacks byte xs → Lacks byte ys → Lacks byte (xs ++ ys)
Lacks-append byte = AllByRecursion-append (λ c. c ≢ byte)

pub Lacks-take_more : (byte : ℕ) (text : List ℕ) (i : ℕ) → i < length text → get_or text i 0 ≢ byte → Lacks byte (take i text) → Lacks byte (take (i + 1) text)
Lacks-take_more byte text i lt other h = AllByRecursion-take_more (λ c. c ≢ byte) text i 0 lt other h

-- a text whose bytes have a fact that the byte has not
pub Lacks-from_fact : (P : ℕ → Type 0) (byte : ℕ) → ¬ (P byte) → (text : List ℕ) → AllByRecursion P text → Lacks byte text
Lacks-from_fact P byte none text h = AllByRecursion-weaker P (λ c. c ≢ byte) (λ c here same. none (subst P same here)) text h

-- a text around the element at a place
pub around : (text : List ℕ) (i c : ℕ) → i < length text → get_or text i 0 ≡ c → text ≡ take i text ++ c ∷ drop (i + 1) text
around text i c lt here = sym (take-append-drop i text) ∙ ap (λ t. take i text ++ t) (drop_more text i 0 lt ∙ ap (λ b. b ∷ drop (i + 1) text) here)

pub SplitsAt_here : (byte : ℕ) (text : List ℕ) (i : ℕ) → i < length text → get_or text i 0 ≡ byte → Lacks byte (take i text) → SplitsAt byte text (take i text) (drop (i + 1) text)
SplitsAt_here byte text i lt here before = record { parts = around text i byte lt here; first = before }

-- two texts before the first such byte are one, and so are the texts after it
pub same_split : (byte : ℕ) (f b g d : List ℕ) → Lacks byte f → Lacks byte g → f ++ byte ∷ b ≡ g ++ byte ∷ d → (f ≡ g) × (b ≡ d)
same_split byte [] b [] d h k e = (refl, cc)
same_split byte [] b (y ∷ g) d h k e = absurd (k.0 cc)
same_split byte (x ∷ f) b [] d h k e = absurd (h.0 cc)
same_split byte (x ∷ f) b (y ∷ g) d h k e =
    let heads : x ≡ y = cc in
    let tails : f ++ byte ∷ b ≡ g ++ byte ∷ d = cc in
    let rest = same_split byte f b g d h.1 k.1 tails in
    (cc, rest.1)

Lacks-middle : (byte : ℕ) (front back : List ℕ) → Lacks byte (front ++ byte ∷ back) → ⊥
Lacks-middle byte [] back h = h.0 refl
Lacks-middle byte (c ∷ front) back h = Lacks-middle byte front back h.1

-- a text that lacks the byte is not split
pub no_split : (byte : ℕ) (text front back : List ℕ) → Lacks byte text → text ≡ front ++ byte ∷ back → ⊥
no_split byte text front back h parts = Lacks-middle byte front back (subst (Lacks byte) parts h)
