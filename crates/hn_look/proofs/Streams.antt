-- One write after another.
use Rattle.hn_base.proofs.Names.{◌≡◌, ◌∙◌, ℕ, List, [], ◌++◌, Option, None, Some, sym, ap, arith, append_assoc, length-append, Appends}
use Rattle.hn_look.proofs.Names.{append-nil, IoFault, Failed, NoMemory, AppendsPart, PiecesAppend, AppendsCut}

pub Appends-none : (a : Option (List ℕ)) → Appends a a []
Appends-none None = tt
Appends-none (Some s) = sym (append-nil s)

-- of what comes after a front, a front was written
two_fronts : (front part missing back piece whole : List ℕ) → piece ≡ part ++ missing → whole ≡ front ++ (piece ++ back) → whole ≡ (front ++ part) ++ (missing ++ back)
two_fronts front part missing back piece whole split is =
    is ∙ ap (λ xs. front ++ (xs ++ back)) split ∙ ap (λ xs. front ++ xs) (append_assoc part missing back) ∙ sym (append_assoc front part (missing ++ back))

-- after a fault a front of what comes after a front was written, of a text that goes on
pub AppendsCut-more : PiecesAppend → (fault : IoFault) (a b c : Option (List ℕ)) (front piece back whole : List ℕ) → Appends a b front → AppendsCut fault b c piece
    → whole ≡ front ++ (piece ++ back) → AppendsCut fault a c whole
AppendsCut-more append Failed a b c front piece back whole before cut is =
    let missing = cut.1.missing in
    let some = cut.1.some in (
      front ++ cut.0,
      record { missing = missing ++ back; some = omega (arith, length-append missing back); whole_is = two_fronts front cut.0 missing back piece whole cut.1.whole_is is },
      append a b c front cut.0 before cut.2,
    )
AppendsCut-more append NoMemory a b c front piece back whole before cut is =
    let rest = cut.1 in
    (front ++ cut.0, (rest.0 ++ back, two_fronts front cut.0 rest.0 back piece whole rest.1 is), append a b c front cut.0 before cut.2)

-- a proper front is a front
pub part_is_cut : (fault : IoFault) (a b : Option (List ℕ)) (text : List ℕ) → AppendsPart a b text → AppendsCut fault a b text
part_is_cut Failed a b text cut = cut
part_is_cut NoMemory a b text cut = (cut.0, (cut.1.missing, cut.1.whole_is), cut.2)
