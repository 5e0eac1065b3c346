-- Pad bytes, one after the other.
use Rattle.hn_base.proofs.Names.{◌≡◌, ◌≢◌, ℕ, ◌+◌, ◌<◌, ◌≤◌, List, ◌∷◌, ◌++◌, length, get_or, take, drop, replicate, sym, ap, ◌∙◌, take-append-drop, drop_more, take_all}
use Rattle.hn_tlv.specs.Padding.{ZerosEndAt, ZerosBreakAt}

-- the bytes before a place are zeros
pub record AreZeros (bytes : List ℕ) (place : ℕ) : Type 0 where
  pub within : place ≤ length bytes
  pub zeros : take place bytes ≡ replicate place 0

pub ends_here : (bytes : List ℕ) (place : ℕ) → AreZeros bytes place → length bytes ≤ place → ZerosEndAt bytes place
ends_here bytes place zeros past = sym (take_all place bytes past) ∙ zeros.zeros

pub breaks_here : (bytes : List ℕ) (place byte : ℕ) → AreZeros bytes place → place < length bytes → get_or bytes place 0 ≡ byte → byte ≢ 0 → ZerosBreakAt bytes place
breaks_here bytes place byte zeros here is not_zero = record {
  byte = byte;
  rest = drop (place + 1) bytes;
  parts = sym (take-append-drop place bytes) ∙ ap (λ (z : List ℕ). z ++ drop place bytes) zeros.zeros
      ∙ ap (λ (z : List ℕ). replicate place 0 ++ z) (drop_more bytes place 0 here ∙ ap (λ (b : ℕ). b ∷ drop (place + 1) bytes) is);
  not_zero = not_zero;
}

pub zeros_front : (bytes : List ℕ) (place : ℕ) → AreZeros bytes place → bytes ≡ replicate place 0 ++ drop place bytes
zeros_front bytes place zeros = sym (take-append-drop place bytes) ∙ ap (λ (z : List ℕ). z ++ drop place bytes) zeros.zeros
