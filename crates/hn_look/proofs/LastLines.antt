-- What is kept of a transcript, from its last `r` on.
use Rattle.hn_base.proofs.Names.{◌≡◌, ◌∙◌, ◌==◌, ◌&&◌, ◌<◌, ◌≤◌, ◌-◌, ℕ, zero, suc, Bool, true, false, List, [], ◌∷◌, ◌++◌, length, get_or, take, drop}
use Rattle.hn_base.proofs.Names.{append_assoc, inl, inr, refl, sym, ap, subst, arith, eqb-true, list_all, drop-cons, take-append-drop, take_rest}
use Rattle.hn_look.specs.LastLine.{AreOther, IsFromLast, is_other}
use Rattle.memchr.specs.Find.{NoneAfter, Nowhere, Passes, is_byte}
use Rattle.std.proofs.lemmas.List.Folds.{list_all-append}

-- ---- bytes without an `r`

pub both : (xs ys : List ℕ) → AreOther xs → AreOther ys → AreOther (xs ++ ys)
both xs ys h k = list_all-append is_other xs ys ∙ (rw (h, k) refl)

first : (a b : Bool) → (a && b) ≡ true → a ≡ true
first true b h = refl
first false b h = absurd cc

second : (a b : Bool) → (a && b) ≡ true → b ≡ true
second true b h = h
second false b h = absurd cc

-- an `r` is none of them
one_there : (front tail : List ℕ) → AreOther (front ++ 114 ∷ tail) → ⊥
one_there [] tail h = absurd cc
one_there (c ∷ front) tail h = one_there front tail (second (is_other c) (list_all is_other (front ++ 114 ∷ tail)) h)

-- from a place on, if it stands at none
from_place : (xs : List ℕ) (i : ℕ) → ((k : ℕ) → i ≤ k → k < length xs → Passes (is_byte 114) xs k → ⊥) → AreOther (drop i xs)
from_place [] zero none = refl
from_place [] (suc i) none = refl
from_place (c ∷ xs) (suc i) none = from_place xs i (λ k low high passes. none (suc k) (omega (arith, low)) (omega (arith, high)) passes)
from_place (c ∷ xs) zero none =
    let others : AreOther xs = from_place xs zero (λ k low high passes. none (suc k) (omega arith) (omega (arith, high)) passes) in
    by_first (c == 114) refl others
  where
    by_first : (b : Bool) → (c == 114) ≡ b → AreOther xs → AreOther (c ∷ xs)
    by_first true is others = absurd (none zero (omega arith) (omega arith) is)
    by_first false is others = rw (is, others) refl

-- the last `r` of a list begins one tail
same_tail : (front other s t : List ℕ) → AreOther s → AreOther t → front ++ 114 ∷ s ≡ other ++ 114 ∷ t → s ≡ t
same_tail [] [] s t h k is = ap (drop 1) is
same_tail [] (c ∷ other) s t h k is = absurd (one_there other t (subst AreOther (ap (drop 1) is) h))
same_tail (c ∷ front) [] s t h k is = absurd (one_there front s (subst AreOther (sym (ap (drop 1) is)) k))
same_tail (c ∷ front) (d ∷ other) s t h k is = same_tail front other s t h k (ap (drop 1) is)

-- ---- what is kept

-- nothing was written
pub kept_first : IsFromLast [] []
kept_first = record { front = []; written_is = refl; begins = inr (refl, refl) }

-- a piece without an `r` is kept behind what is kept
pub kept_on : (written kept piece : List ℕ) → IsFromLast written kept → Nowhere (Passes (is_byte 114) piece) 0 (length piece)
    → IsFromLast (written ++ piece) (kept ++ piece)
kept_on written kept piece is nowhere =
    let others : AreOther piece = from_place piece zero nowhere in
    record {
      front = is.front;
      written_is = ap (λ (xs : List ℕ). xs ++ piece) is.written_is ∙ append_assoc is.front kept piece;
      begins = elim is.begins [
        | inl one ↦ inl (one.0 ++ piece, ap (λ (xs : List ℕ). xs ++ piece) one.1, both one.0 piece one.2 others)
        | inr none ↦ inr (none.0, both kept piece none.1 others)
      ];
    }

-- of a piece with one the last is kept, and what follows
pub kept_anew : (written piece : List ℕ) (place : ℕ) → NoneAfter (Passes (is_byte 114) piece) 0 (length piece) place × Passes (is_byte 114) piece place
    → IsFromLast (written ++ piece) (take (length piece - place) (drop place piece))
kept_anew written piece place (none, passes) =
    let tail : List ℕ = drop (suc place) piece in
    let there : get_or piece place 0 ≡ 114 = eqb-true (get_or piece place 0) 114 passes in
    let is : drop place piece ≡ 114 ∷ tail = drop-cons piece place 0 none.high ∙ ap (λ (c : ℕ). c ∷ tail) there in
    let others : AreOther tail = from_place piece (suc place) (λ k low high. none.after k (omega (arith, low)) high) in
    let rest : take (length piece - place) (drop place piece) ≡ drop place piece = take_rest piece place in
    record {
      front = written ++ take place piece;
      written_is = ap (λ (xs : List ℕ). written ++ xs) (sym (take-append-drop place piece)) ∙ sym (append_assoc written (take place piece) (drop place piece))
          ∙ ap (λ (xs : List ℕ). (written ++ take place piece) ++ xs) (sym rest);
      begins = inl (tail, rest ∙ is, others);
    }

-- so a line that begins with the one `r` that it has is kept whole
pub kept_line : (written kept front tail : List ℕ) → IsFromLast written kept → AreOther tail → written ≡ front ++ 114 ∷ tail → kept ≡ 114 ∷ tail
kept_line written kept front tail is others ends = elim is.begins [
  | inl one ↦ one.1 ∙ ap (λ (xs : List ℕ). 114 ∷ xs)
      (same_tail is.front front one.0 tail one.2 others (ap (λ (xs : List ℕ). is.front ++ xs) (sym one.1) ∙ sym is.written_is ∙ ends))
  | inr none ↦
      let all : kept ≡ front ++ 114 ∷ tail = ap (λ (xs : List ℕ). xs ++ kept) (sym none.0) ∙ sym is.written_is ∙ ends in
      absurd (one_there front tail (subst AreOther all none.1))
]
