-- One write after another.
use Rattle.hn_base.proofs.Names.{◌≡◌, ◌∙◌, ℕ, List, [], ◌++◌, Option, Result, Ok, Err, sym, ap, refl, arith, append_assoc, length-append, OnErr, IfErr, Appends}
use Rattle.std.proofs.KnownBytes.{Appends-nil}
use Rattle.hn_forms.proofs.Names.{IoFault, Failed, NoMemory, AppendsPart, PiecesAppend, AppendsCut}
use Rattle.hn_streams.specs.Output.{AppendsFront}

-- of what comes after a front, a front was written
two_fronts : (front part missing back piece whole : List ℕ) → piece ≡ part ++ missing → whole ≡ front ++ (piece ++ back) → whole ≡ (front ++ part) ++ (missing ++ back)
two_fronts front part missing back piece whole split is =
    is ∙ ap (λ xs. front ++ (xs ++ back)) split ∙ ap (λ xs. front ++ xs) (append_assoc part missing back) ∙ sym (append_assoc front part (missing ++ back))

-- a front of what comes after a front, of a text that goes on
AppendsFront-more : PiecesAppend → (a b c : Option (List ℕ)) (front piece back whole : List ℕ) → Appends a b front → AppendsFront b c piece → whole ≡ front ++ (piece ++ back) → AppendsFront a c whole
AppendsFront-more append a b c front piece back whole before cut is =
    let rest = cut.1 in
    (front ++ cut.0, (rest.0 ++ back, two_fronts front cut.0 rest.0 back piece whole rest.1 is), append a b c front cut.0 before cut.2)

-- nothing of a text
pub AppendsFront-none : (a : Option (List ℕ)) (text : List ℕ) → AppendsFront a a text
AppendsFront-none a text = ([], (text, refl), Appends-nil a)

-- a proper front of what comes after a front, of a text that goes on
pub AppendsPart-more : PiecesAppend → (a b c : Option (List ℕ)) (front piece back whole : List ℕ) → Appends a b front → AppendsPart b c piece → whole ≡ front ++ (piece ++ back) → AppendsPart a c whole
AppendsPart-more append a b c front piece back whole before cut is =
    let missing = cut.1.missing in
    let some = cut.1.some in (
      front ++ cut.0,
      record { missing = missing ++ back; some = omega (arith, length-append missing back); whole_is = two_fronts front cut.0 missing back piece whole cut.1.whole_is is },
      append a b c front cut.0 before cut.2,
    )

-- after a fault
pub AppendsCut-more : PiecesAppend → (fault : IoFault) (a b c : Option (List ℕ)) (front piece back whole : List ℕ) → Appends a b front
    → AppendsCut fault b c piece → whole ≡ front ++ (piece ++ back) → AppendsCut fault a c whole
AppendsCut-more append Failed a b c front piece back whole before cut is = AppendsPart-more append a b c front piece back whole before cut is
AppendsCut-more append NoMemory a b c front piece back whole before cut is = AppendsFront-more append a b c front piece back whole before cut is

-- a proper front is a front
pub part_is_cut : (fault : IoFault) (a b : Option (List ℕ)) (text : List ℕ) → AppendsPart a b text → AppendsCut fault a b text
part_is_cut Failed a b text cut = cut
part_is_cut NoMemory a b text cut = (cut.0, (cut.1.missing, cut.1.whole_is), cut.2)

pub cut_on_err : {T : Type 0} (written : Result T IoFault) (a b : Option (List ℕ)) (text : List ℕ) → OnErr written (AppendsPart a b text) → IfErr written (λ fault. AppendsCut fault a b text)
cut_on_err (Ok x) a b text cut = tt
cut_on_err (Err fault) a b text cut = part_is_cut fault a b text cut
