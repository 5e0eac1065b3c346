-- The lines of the script of a soak, numbered from 2, are the script.
use Rattle.hn_base.proofs.Names.{◌≡◌, ℕ, zero, suc, ◌+◌, ◌*◌, ◌/◌, ◌≤◌, Bool, true, false, cond, List, [], ◌∷◌, ◌++◌, length, map, codes, Some, refl, sym, ap, subst, ◌∙◌, arith, length-append}
use Rattle.hn_base.proofs.Names.{AllZip-long, ◌==◌, AllZip, AllByRecursion, id_text}
use Rattle.hn_script.proofs.Names.{IsPrintable, PrintedIsRead, renumbered, numbered, IsOfVersion, line_text, IsScript, ended, first_line, router_name, link_name, up_to, IsLineOf, AddsLines, Line, Script}
use Rattle.hn_script.proofs.Names.{One}
use Rattle.hn_script.specs.Entries.{most_bytes}
use Rattle.hn_script.specs.Script.{script_text}
use Rattle.hn_script.specs.Soak.{chance_texts, link_texts, upward_texts, router_texts, run_texts, report_texts, soak_texts, soak_text}
use Rattle.hn_script.proofs.SoakTexts.{adds_both}

-- ---- how many lines there are

short_choice : (b : Bool) (text : List ℕ) → length (cond b [] (text ∷ [])) ≤ 1
short_choice true text = omega arith
short_choice false text = omega arith

upward_count : (k : ℕ) → length (upward_texts k) ≤ 1
unfolding upward_texts
upward_count k = short_choice (k == 1) (codes "attach " ++ router_name k ++ codes " 1 " ++ link_name (k / 2))

router_count : (k : ℕ) → length (router_texts k) ≤ 3
unfolding router_texts
router_count k =
    let upward : length (upward_texts k) ≤ 1 = upward_count k in
    omega (arith, length-append ((codes "router " ++ router_name k ++ codes " " ++ id_text k) ∷ upward_texts k) ((codes "attach " ++ router_name k ++ codes " 2 " ++ link_name k) ∷ []))

up_to_count : (n most : ℕ) (texts : ℕ → List (List ℕ)) → ((k : ℕ) → length (texts k) ≤ most) → length (up_to n texts) ≤ n * most
up_to_count zero most texts few = omega arith
up_to_count (suc n) most texts few =
    omega (arith, length-append (up_to n texts) (texts (suc n)), up_to_count n most texts few, few (suc n))

pub soak_count : (n seed : ℕ) → n ≤ 32 → length (soak_texts n seed) ≤ 1000
unfolding soak_texts chance_texts link_texts run_texts report_texts
soak_count n seed small =
    let chance = chance_texts seed in
    let links = up_to n link_texts in
    let routers = up_to n router_texts in
    omega (
      arith,
      length-append (chance ++ links ++ routers ++ run_texts) (report_texts n),
      length-append (chance ++ links ++ routers) run_texts,
      length-append (chance ++ links) routers,
      length-append chance links,
      up_to_count n 1 link_texts (λ k. omega arith),
      up_to_count n 3 router_texts router_count,
    )

-- ---- numbered lines

-- one line more
pub numbered_more : (n : ℕ) (lines : List Line) (line : Line) → numbered n (map Some (lines ++ line ∷ [])) ≡ numbered n (map Some lines) ++ (n + length lines, line) ∷ []
numbered_more n [] line = ap (λ (number : ℕ). (number, line) ∷ []) (omega arith)
numbered_more n (first ∷ lines) line =
    let number : n + 1 + length lines ≡ n + length (first ∷ lines) = omega arith in
    ap (λ (found : List (ℕ × Line)). (n, first) ∷ found) (numbered_more (n + 1) lines line ∙ ap (λ (k : ℕ). numbered (n + 1) (map Some lines) ++ (k, line) ∷ []) number)

numbered_again : (n : ℕ) (lines : List Line) → renumbered n (numbered n (map Some lines)) ≡ numbered n (map Some lines)
numbered_again n [] = refl
numbered_again n (line ∷ lines) = ap (λ (found : List (ℕ × Line)). (n, line) ∷ found) (numbered_again (n + 1) lines)

numbered_texts : (n : ℕ) (lines : List Line) (texts : List (List ℕ)) → AllZip IsLineOf lines texts → map (λ (line : ℕ × Line). line_text line.1) (numbered n (map Some lines)) ≡ texts
numbered_texts n [] [] h = refl
numbered_texts n [] (text ∷ texts) h = absurd h
numbered_texts n (line ∷ lines) [] h = absurd h
numbered_texts n (line ∷ lines) (text ∷ texts) h =
    ap (λ (t : List ℕ). t ∷ map (λ (l : ℕ × Line). line_text l.1) (numbered (n + 1) (map Some lines))) h.0.text_is
    ∙ ap (λ (found : List (List ℕ)). text ∷ found) (numbered_texts (n + 1) lines texts h.1)

numbered_printable : (n : ℕ) (lines : List Line) (texts : List (List ℕ)) → AllZip IsLineOf lines texts → AllByRecursion (λ line. IsPrintable line.1) (numbered n (map Some lines))
numbered_printable n [] texts h = tt
numbered_printable n (line ∷ lines) [] h = absurd h
numbered_printable n (line ∷ lines) (text ∷ texts) h = (h.0.printable, numbered_printable (n + 1) lines texts h.1)

numbered_of_one : (n : ℕ) (lines : List Line) (texts : List (List ℕ)) → AllZip IsLineOf lines texts → AllByRecursion (λ line. IsOfVersion One line.1) (numbered n (map Some lines))
numbered_of_one n [] texts h = tt
numbered_of_one n (line ∷ lines) [] h = absurd h
numbered_of_one n (line ∷ lines) (text ∷ texts) h = (h.0.of_one, numbered_of_one (n + 1) lines texts h.1)

-- ---- the script

ended_short : (lines : List Line) (texts : List (List ℕ)) → AllZip IsLineOf lines texts → length (ended texts) ≤ 16385 * length texts
ended_short [] [] h = omega arith
ended_short [] (text ∷ texts) h = absurd h
ended_short (line ∷ lines) [] h = absurd h
ended_short (line ∷ lines) (text ∷ texts) h =
    let short : length text ≤ 16384 = subst (λ (t : List ℕ). length t ≤ 16384) h.0.text_is h.0.printable.short in
    omega (arith, length-append (text ++ 10 ∷ []) (ended texts), length-append text (10 ∷ []), ended_short lines texts h.1)

script_so : PrintedIsRead → (texts : List (List ℕ)) (lines : List Line) → AllZip IsLineOf lines texts → length texts ≤ 1000
    → IsScript (record { version = One; lines = numbered 2 (map Some lines) }) (ended (first_line One ∷ texts))
script_so read texts lines h few =
    let script : Script = record { version = One; lines = numbered 2 (map Some lines) } in
    let text : script_text script ≡ ended (first_line One ∷ texts) = ap (λ (found : List (List ℕ)). ended (first_line One ∷ found)) (numbered_texts 2 lines texts h) in
    let short = ended_short lines texts h in
    let small : length (ended (first_line One ∷ texts)) ≤ most_bytes = omega arith in
    let is = read script (numbered_of_one 2 lines texts h) (numbered_printable 2 lines texts h) (subst (λ (bytes : List ℕ). length bytes ≤ most_bytes) (sym text) small) in
    subst (λ (bytes : List ℕ). IsScript script bytes) text
    (subst (λ (found : List (ℕ × Line)). IsScript (record { version = One; lines = found }) (script_text script)) (numbered_again 2 lines) is)

-- what is added to no lines, numbered from 2, is the script
pub soak_so : PrintedIsRead → (n seed : ℕ) (none lines : List Line) → n ≤ 32 → none ≡ [] → AddsLines (soak_texts n seed) none lines
    → IsScript (record { version = One; lines = numbered 2 (map Some lines) }) (soak_text n seed)
unfolding soak_text
soak_so read n seed none lines small empty h =
    let all : lines ≡ h.more = h.added ∙ ap (λ (found : List Line). found ++ h.more) empty in
    script_so read (soak_texts n seed) lines (subst (λ (found : List Line). AllZip IsLineOf found (soak_texts n seed)) (sym all) h.lines) (soak_count n seed small)

-- it has few lines
pub soak_few : (n seed : ℕ) (none lines : List Line) → n ≤ 32 → none ≡ [] → AddsLines (soak_texts n seed) none lines → length lines ≤ 1000
soak_few n seed none lines small empty h =
    let count = soak_count n seed small in
    let long : length (soak_texts n seed) ≡ length h.more = AllZip-long IsLineOf h.more (soak_texts n seed) h.lines in
    let all : length lines ≡ length h.more = ap length (h.added ∙ ap (λ (found : List Line). found ++ h.more) empty) in
    omega arith

-- what the parts add, the whole adds
pub adds_all : (n seed : ℕ) (a b c d e f : List Line) → AddsLines (chance_texts seed) a b → AddsLines (up_to n link_texts) b c → AddsLines (up_to n router_texts) c d
    → AddsLines run_texts d e → AddsLines (report_texts n) e f
    → AddsLines (soak_texts n seed) a f
unfolding soak_texts
adds_all n seed a b c d e f chance links routers run reports =
    adds_both _ _ a e f (adds_both _ _ a d e (adds_both _ _ a c d (adds_both _ _ a b c chance links) routers) run) reports
