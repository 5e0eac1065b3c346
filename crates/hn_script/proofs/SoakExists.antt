-- Each text of a soak is a script.
use Rattle.hn_base.proofs.Names.{◌≡◌, ℕ, zero, suc, ◌-◌, ◌/◌, ◌^◌, ◌<◌, List, [], ◌∷◌, ◌++◌, length, replicate, refl, sym, subst, inl, inr, arith, length-append, ◌⊎◌, ◌≢◌, length-replicate}
use Rattle.hn_base.proofs.Names.{take-append_seam, drop-append_seam, IsNameText}
use Rattle.hn_script.proofs.Names.{Name, IsNameWord, PrintedIsRead, router_name, link_name, up_to, upward_texts, AddsLines, Line, Router, Link, Attach, External, Seed, Loss, Run}
use Rattle.hn_script.specs.Laws.{SoakIsAScript}
use Rattle.hn_script.specs.Soak.{chance_texts, link_texts, router_texts, run_texts, report_texts}
use Rattle.hn_script.proofs.SoakScripts.{soak_so, adds_all}
use Rattle.hn_script.proofs.SoakTexts.{numbered_name, first_name, seed_line, loss_line, link_line, router_line, first_attach_line, second_attach_line, uplink, external_line, run_line, compare_line}
use Rattle.hn_script.proofs.SoakTexts.{audit_line, used_line, prefixes_line, mail_line, show_line, adds_none, adds_one, adds_both, adds_then, adds_no_upward, adds_upward}

-- the name of a text
name_of : (text : List ℕ) → IsNameText text → (name : Name) × IsNameWord name text
name_of text h =
    let short = h.short in
    let rest : List ℕ = replicate (16 - length text) 0 in
    let all : length (text ++ rest) ≡ 16 = omega (arith, length-append text rest, length-replicate {A = ℕ} (16 - length text) 0) in
    let name : Name = record {
      len = length text;
      bytes = text ++ rest;
      fits = h.short;
      is_name = subst IsNameText (sym (take-append_seam text rest)) h;
      padded = drop-append_seam text rest;
    } in
    (name, record { text = sym (take-append_seam text rest); room = all })

router_named : (k : ℕ) → k < 2 ^ 32 → (name : Name) × IsNameWord name (router_name k)
router_named k small = name_of (router_name k) (numbered_name 114 k small refl)

link_named : (k : ℕ) → k < 2 ^ 32 → (name : Name) × IsNameWord name (link_name k)
link_named k small = name_of (link_name k) (numbered_name 108 k small refl)

-- lines of these texts can be added
CanAdd : List (List ℕ) → Type 0
CanAdd texts = (before : List Line) → (after : List Line) × AddsLines texts before after

chance : (seed : ℕ) → seed < 2 ^ 64 → CanAdd (chance_texts seed)
unfolding CanAdd chance_texts
chance seed small before = (
  before ++ Seed seed ∷ [] ++ Loss 10 ∷ [],
  adds_then _ _ _ _ _ _ (adds_one _ before _ _ (seed_line seed small) refl) loss_line refl,
)

each_up_to : (n : ℕ) (texts : ℕ → List (List ℕ)) → n < 2 ^ 32 → ((k : ℕ) → k < 2 ^ 32 → CanAdd (texts k)) → CanAdd (up_to n texts)
unfolding CanAdd
each_up_to zero texts small each before = (before, adds_none before)
each_up_to (suc n) texts small each before =
    let so_far = each_up_to n texts (omega arith) each before in
    let one = each (suc n) small so_far.0 in
    (one.0, adds_both (up_to n texts) (texts (suc n)) before so_far.0 one.0 so_far.1 one.1)

link : (k : ℕ) → k < 2 ^ 32 → CanAdd (link_texts k)
unfolding CanAdd link_texts
link k small before =
    let name = link_named k small in
    (before ++ Link name.0 ∷ [], adds_one _ before _ _ (link_line name.0 _ name.1) refl)

upward : (k : ℕ) → k < 2 ^ 32 → (name : Name) → IsNameWord name (router_name k) → (k ≡ 1) ⊎ (k ≢ 1) → CanAdd (upward_texts k)
unfolding CanAdd
upward k small name h (inl is) before = (before, adds_no_upward k before is)
upward k small name h (inr is_not) before =
    let parent = link_named (k / 2) (omega arith) in (
      before ++ Attach name (record { 0 = 1 }) parent.0 ∷ [],
      adds_upward k before _ is_not (adds_one _ before _ _ (first_attach_line name parent.0 _ _ h parent.1) refl),
    )

one_or_not : (k : ℕ) → (k ≡ 1) ⊎ (k ≢ 1)
one_or_not zero = inr (λ is. absurd (omega arith))
one_or_not (suc zero) = inl refl
one_or_not (suc (suc k)) = inr (λ is. absurd (omega arith))

router : (k : ℕ) → k < 2 ^ 32 → CanAdd (router_texts k)
unfolding CanAdd router_texts
router k small before =
    let name = router_named k small in
    let own = link_named k small in
    let first = before ++ Router name.0 (record { 0 = k }) ∷ [] in
    let above = upward k small name.0 name.1 (one_or_not k) first in (
      above.0 ++ Attach name.0 (record { 0 = 2 }) own.0 ∷ [],
      adds_then _ _ before above.0 _ _ (adds_both _ _ before first above.0 (adds_one _ before first _ (router_line name.0 _ k small name.1) refl) above.1)
          (second_attach_line name.0 own.0 _ _ name.1 own.1) refl,
    )

run : CanAdd run_texts
unfolding CanAdd run_texts
run before =
    let name = router_named 1 (omega arith) in (
      before ++ External name.0 uplink 7200 3600 ∷ [] ++ Run 60000 100 ∷ [],
      adds_then _ _ before _ _ _ (adds_one _ before _ _ (external_line name.0 uplink refl (first_name name.0 name.1)) refl) run_line refl,
    )

reports : (n : ℕ) → n < 2 ^ 32 → CanAdd (report_texts n)
unfolding CanAdd report_texts
reports n small before =
    let root = router_named 1 (omega arith) in
    let last = router_named n small in
    let first = first_name root.0 root.1 in
    let one = adds_one _ before _ _ (compare_line root.0 last.0 _ first last.1) refl in
    let two = adds_then _ _ before _ _ _ one (audit_line root.0 _ first) refl in
    let three = adds_then _ _ before _ _ _ two (used_line root.0 _ first) refl in
    let four = adds_then _ _ before _ _ _ three (prefixes_line root.0 _ first) refl in
    let five = adds_then _ _ before _ _ _ four (prefixes_line last.0 _ last.1) refl in
    let six = adds_then _ _ before _ _ _ five mail_line refl in
    let seven = adds_then _ _ before _ _ _ six (show_line root.0 _ first) refl in
    (_, adds_then _ _ before _ _ _ seven (show_line last.0 _ last.1) refl)

pub soak_is : PrintedIsRead → SoakIsAScript
unfolding CanAdd
soak_is read n seed low small fits =
    let a = chance seed fits [] in
    let b = each_up_to n link_texts (omega arith) link a.0 in
    let c = each_up_to n router_texts (omega arith) router b.0 in
    let d = run c.0 in
    let e = reports n (omega arith) d.0 in
    (_, soak_so read n seed [] e.0 small refl (adds_all n seed [] a.0 b.0 c.0 d.0 e.0 a.1 b.1 c.1 d.1 e.1))
