-- A script of which no line is skipped grows by one line after another.
use Rattle.hn_base.proofs.Names.{◌≡◌, ℕ, ◌+◌, ◌≤◌, List, [], ◌∷◌, ◌++◌, length, map, Some, refl, sym, ap, ◌∙◌, arith, length-append, AllZip, AllByRecursion, Lacks, subst}
use Rattle.hn_script.proofs.Names.{Version, IsEntry, numbered, of_version, ended, first_line, lines_of, Line}
use Rattle.hn_script.specs.Laws.{DenseBegins, DenseGoesOn, DenseIsAScript, DenseHasFewLines}
use Rattle.hn_script.proofs.Printed.{plain_lacks, ended_lines, first_lacks, ended-push}
use Rattle.hn_script.proofs.SoakScripts.{numbered_more}

-- each text is a line
abbrev AreRead : Version → List Line → List (List ℕ) → Type 0
AreRead version given texts = AllZip (λ line text. IsEntry (of_version version) (Some line) text) given texts

as_entries : (version : Version) (given : List Line) (texts : List (List ℕ)) → AreRead version given texts → AllZip (IsEntry (of_version version)) (map Some given) texts
as_entries version [] [] h = tt
as_entries version [] (text ∷ texts) h = absurd h
as_entries version (line ∷ given) [] h = absurd h
as_entries version (line ∷ given) (text ∷ texts) h = (h.0, as_entries version given texts h.1)

texts_lack : (version : Version) (given : List Line) (texts : List (List ℕ)) → AreRead version given texts → AllByRecursion (Lacks 10) texts
texts_lack version given [] h = tt
texts_lack version [] (text ∷ texts) h = absurd h
texts_lack version (line ∷ given) (text ∷ texts) h = (plain_lacks text h.0.plain, texts_lack version given texts h.1)

one_more : (version : Version) (given : List Line) (texts : List (List ℕ)) (line : Line) (text : List ℕ) → AreRead version given texts
    → IsEntry (of_version version) (Some line) text → AreRead version (given ++ line ∷ []) (texts ++ text ∷ [])
one_more version [] [] line text h entry = (entry, tt)
one_more version [] (first ∷ texts) line text h entry = absurd h
one_more version (first ∷ given) [] line text h entry = absurd h
one_more version (first ∷ given) (next ∷ texts) line text h entry = (h.0, one_more version given texts line text h.1 entry)

as_many : (version : Version) (given : List Line) (texts : List (List ℕ)) → AreRead version given texts → length given ≡ length texts
as_many version [] [] h = refl
as_many version [] (text ∷ texts) h = absurd h
as_many version (line ∷ given) [] h = absurd h
as_many version (line ∷ given) (text ∷ texts) h = let rest = as_many version given texts h.1 in omega (arith, rest)

numbered_long : (n : ℕ) (given : List Line) → length (numbered n (map Some given)) ≡ length given
numbered_long n [] = refl
numbered_long n (line ∷ given) = let rest = numbered_long (n + 1) given in omega (arith, rest)

ended_long : (texts : List (List ℕ)) → length texts ≤ length (ended texts)
ended_long [] = omega arith
ended_long (text ∷ texts) =
    let rest = ended_long texts in let long = length-append (text ++ 10 ∷ []) (ended texts) in let here = length-append text (10 ∷ []) in
    omega (arith, rest, long, here)

pub dense_begins : DenseBegins
dense_begins version = record { texts = []; bytes_are = refl; given = []; read = tt; lines_are = refl }

pub dense_goes_on : DenseGoesOn
dense_goes_on script bytes text line h entry =
    let long : length script.lines ≡ length h.given = ap length h.lines_are ∙ numbered_long 2 h.given in
    let number : length script.lines + 2 ≡ 2 + length h.given = omega (arith, long) in record {
      texts = h.texts ++ text ∷ [];
      bytes_are = ap (λ (so_far : List ℕ). so_far ++ text ++ 10 ∷ []) h.bytes_are ∙ sym (ended-push (first_line script.version ∷ h.texts) text);
      given = h.given ++ line ∷ [];
      read = one_more script.version h.given h.texts line text h.read entry;
      lines_are = (λ i. h.lines_are i ++ (number i, line) ∷ []) ∙ sym (numbered_more 2 h.given line);
    }

pub dense_is_a_script : DenseIsAScript
dense_is_a_script script bytes h small = record {
  small = small;
  texts = h.texts;
  parts = subst (λ (b : List ℕ). lines_of b ≡ first_line script.version ∷ h.texts) (sym h.bytes_are)
      (ended_lines (first_line script.version ∷ h.texts) (first_lacks script.version, texts_lack script.version h.given h.texts h.read));
  lines = (map Some h.given, as_entries script.version h.given h.texts h.read, h.lines_are);
}

pub dense_has_few_lines : DenseHasFewLines
dense_has_few_lines script bytes h =
    let lines : length script.lines ≡ length h.given = ap length h.lines_are ∙ numbered_long 2 h.given in
    let texts = as_many script.version h.given h.texts h.read in
    let whole : length bytes ≡ length (ended (first_line script.version ∷ h.texts)) = ap length h.bytes_are in
    let long = ended_long (first_line script.version ∷ h.texts) in
    omega (arith, lines, texts, whole, long)
