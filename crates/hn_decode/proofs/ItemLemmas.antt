-- The text of an item, put together.
use Rattle.hn_base.proofs.Names.{◌≡◌, List, ℕ, ◌++◌, Result, Ok, Err, ap, ◌∙◌, append_assoc}
use Rattle.hn_decode.proofs.Names.{OnOk}

-- what was added is the same text, grouped otherwise
pub added : {E : Type 0} (result : Result (Unit {0}) E) (old new text said : List ℕ) → text ≡ said → OnOk result (new ≡ old ++ text) → OnOk result (new ≡ old ++ said)
added (Ok _) old new text said same h = h ∙ ap (λ (z : List ℕ). old ++ z) same
added (Err e) old new text said same h = h

pub two_fields : (a x b y : List ℕ) → a ++ (x ++ (b ++ y)) ≡ a ++ x ++ b ++ y
two_fields a x b y = simp append_assoc

pub four_fields : (a x b y c z d w : List ℕ) → a ++ (x ++ (b ++ (y ++ (c ++ (z ++ (d ++ w)))))) ≡ a ++ x ++ b ++ y ++ c ++ z ++ d ++ w
four_fields a x b y c z d w = simp append_assoc
