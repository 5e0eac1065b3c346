-- The line of the refusal with which the transcript of a refused script ends.
use Rattle.hn_base.proofs.Names.{◌≡◌, ◌≢◌, ◌⊎◌, ◌∙◌, ◌+◌, ◌/◌, ◌%◌, ◌<◌, ℕ, zero, suc, Bool, true, false, List, [], ◌∷◌, ◌++◌, Option, Some}
use Rattle.hn_base.proofs.Names.{lit<, inl, inr, refl, sym, ap, subst, codes, arith, ◌==◌, if◌then◌else◌, decimal, digits_onto, digit_glyph, flat_map-append}
use Rattle.hn_base.proofs.Names.{lt-ltb, ne_eqb, mod_below}
use Rattle.hn_look.proofs.Names.{append-nil, IoFault, Parts, EndsRefused, IsLookRun}
use Rattle.hn_look.specs.LastLine.{AreOther, is_other}
use Rattle.std.specs.Fmt.{digits}
use Rattle.std.specs.Prelude.{Result}
use Rattle.hn_lab.specs.Lab.{IsLabRun, IsLabOf, status_of}
use Rattle.hn_lab.specs.Play.{IsPlay}
use Rattle.hn_streams.specs.Refusal.{refused_line}
use Rattle.hn_play.specs.Stage.{Stage, Mail}
use Rattle.hn_play.specs.Told.{Told, told, bytes_of}
use Rattle.hn_play.specs.declared.end.End.{End}
use Rattle.hn_play.specs.declared.end.End.TheVariants.{Done, Refused, WireFailed}
use Rattle.hn_look.specs.Look.{IsLook, Looked, looked_status}
use Rattle.hn_look.proofs.LastLines.{both}
use Rattle.hn_look.proofs.Streams.{Appends-none}

-- ---- the line has one `r`

glyph_other : (n : ℕ) → is_other (digit_glyph false (n % 10)) ≡ true
glyph_other n =
    let below : n % 10 < 10 = mod_below n 10 (lit< tt) in
    rw (lt-ltb (n % 10) 10 below) (rw (ne_eqb (48 + n % 10) 114 (λ same. omega arith)) refl)

choose : (b : Bool) (xs ys : List ℕ) → AreOther xs → AreOther ys → AreOther (if b then xs else ys)
choose true xs ys h k = h
choose false xs ys h k = k

digits_other : (k n : ℕ) (acc : List ℕ) → AreOther acc → AreOther (digits_onto k 10 false n acc)
digits_other zero n acc h = h
digits_other (suc k) n acc h =
    let more : AreOther (digit_glyph false (n % 10) ∷ acc) = rw (glyph_other n, h) refl in
    choose (n / 10 == 0) (digit_glyph false (n % 10) ∷ acc) (digits_onto k 10 false (n / 10) (digit_glyph false (n % 10) ∷ acc)) more (digits_other k (n / 10) (digit_glyph false (n % 10) ∷ acc) more)

decimal_other : (n : ℕ) → AreOther (decimal n)
unfolding digits
decimal_other n = digits_other 64 n [] refl

-- what follows the `r`
abbrev pub tail_of : ℕ → ℕ → List ℕ
tail_of number code = codes "efused " ++ decimal number ++ codes " " ++ decimal code ++ 10 ∷ []

pub tail_other : (number code : ℕ) → AreOther (tail_of number code)
tail_other number code =
    let front : List ℕ = codes "efused " ++ decimal number in
    let one : AreOther front = both (codes "efused ") (decimal number) refl (decimal_other number) in
    let two : AreOther (front ++ codes " ") = both front (codes " ") one refl in
    let three : AreOther (front ++ codes " " ++ decimal code) = both (front ++ codes " ") (decimal code) two (decimal_other code) in
    both (front ++ codes " " ++ decimal code) (10 ∷ []) three refl

-- ---- a transcript ends with it

two_of : (end : End) (lines : _) (before after : Stage) → IsPlay lines end before after → 2 ≡ status_of end
    → (front : List ℕ) × (number code : ℕ) × (bytes_of after.text ≡ front ++ refused_line number code)
two_of Done lines before after play two = absurd (omega arith)
two_of (Refused number code) lines before after play two =
    let said = play.said in
    let refused = said.0 in
    let line = refused_line number code in (
      bytes_of refused.text,
      number,
      code,
      ap (λ (p : Stage). bytes_of p.text) said.2 ∙ flat_map-append (λ (t : Told). t.line) refused.text (told refused.world (line ∷ [])) ∙ ap (λ xs. bytes_of refused.text ++ xs) (append-nil line),
    )
two_of WireFailed lines before after play two = absurd (omega arith)

ends_with : (transcript : List ℕ) (front : List ℕ) (number code : ℕ) → transcript ≡ front ++ refused_line number code → (line : List ℕ) × EndsRefused transcript line
ends_with transcript front number code is = (refused_line number code, record { front = front; number = number; code = code; transcript_is = is; line_is = refl })

of_lab : (left : List ℕ) (world : Option Parts) (written : List ℕ) → IsLabOf Mail Mail left 2 world written → (line : List ℕ) × EndsRefused written line
of_lab bytes world written (inl (no_play)) =
    elim no_play.written_is [
      | inl whole ↦ ends_with written [] no_play.fault.line no_play.fault.code whole.1
      | inr cut ↦ elim cut [ inl broken ↦ let no = broken.0 in absurd (omega arith) | inr starved ↦ let no = starved.0 in absurd (omega arith) ]
    ]
of_lab bytes world written (inr (inl script_play)) =
    elim script_play.plays [
      | inl whole ↦
          let end = two_of whole.end _ _ whole.after whole.play whole.status_is in
          ends_with written end.0 end.1 end.2 (whole.written_is ∙ end.3)
      | inr cut ↦ elim cut [ inl broken ↦ let no = broken.status_is in absurd (omega arith) | inr starved ↦ let no = starved.status_is in absurd (omega arith) ]
    ]
of_lab bytes world written (inr (inr unread)) = let no = unread.0 in absurd (omega arith)

pub ends_refused : (left : Option (List ℕ)) (world : Option Parts) (status : ℕ) (transcript : List ℕ) → IsLabRun Mail Mail left status world (Some []) (Some transcript) → status ≡ 2
    → (line : List ℕ) × EndsRefused transcript line
ends_refused left world status transcript run two =
    let comes = subst (λ (s : ℕ). IsLabOf Mail Mail run.bytes s world run.written) two run.comes in
    let ends = of_lab run.bytes world run.written comes in
    (ends.0, subst (λ (xs : List ℕ). EndsRefused xs ends.0) (sym run.appends) ends.1)

-- of the transcript of a play that was refused
pub ends_so : (left : Option (List ℕ)) (world : Option Parts) (status : ℕ) (held after : List ℕ) → held ≡ []
    → (status ≢ 3 → IsLabRun Mail Mail left status world (Some held) (Some after)) → status ≡ 2
    → (line : List ℕ) × EndsRefused after line
ends_so left world status held after none run two =
    let played : IsLabRun Mail Mail left status world (Some held) (Some after) = run (λ three. omega arith) in
    let begun : IsLabRun Mail Mail left status world (Some []) (Some after) = subst (λ (xs : List ℕ). IsLabRun Mail Mail left status world (Some xs) (Some after)) none played in
    ends_refused left world status after begun two

-- the line that was found is that one
pub line_found : (transcript line found : List ℕ) → EndsRefused transcript line
    → ((front : List ℕ) (number code : ℕ) → transcript ≡ front ++ refused_line number code → found ≡ refused_line number code) → found ≡ line
line_found transcript line found ends finds =
    finds ends.front ends.number ends.code (ends.transcript_is ∙ ap (λ xs. ends.front ++ xs) ends.line_is) ∙ sym ends.line_is

-- a play that ran out of memory before there was anything to look at
pub unseen : (Starving : Type 0) (sees : Parts → ℕ → List ℕ → Type 0) (left : Option (List ℕ)) (world : Option Parts) (status : ℕ) (held after : List ℕ)
    (before : Option (List ℕ)) → held ≡ [] → IsLabRun Mail Mail left status world (Some held) (Some after) → status ≡ 6
    → IsLookRun Starving sees left status before before
unseen Starving sees left world status held after before none run six = record {
  played = status;
  world = world;
  transcript = after;
  plays = subst (λ (xs : List ℕ). IsLabRun Mail Mail left status world (Some xs) (Some after)) none run;
  comes = inl (six, six, Appends-none before);
}

not_three : (played : ℕ) → (played ≡ 0) ⊎ (played ≡ 2) → played ≢ 3
not_three played (inl done) three = omega arith
not_three played (inr two) three = omega arith

-- a look at the world of a play that was done, or refused
pub looked_at : (Starving : Type 0) (sees : Parts → ℕ → List ℕ → Type 0) (left : Option (List ℕ)) (world : Option Parts) (played : ℕ) (held after : List ℕ)
    (before last : Option (List ℕ)) (status : ℕ) (answer : Result ℕ IoFault) → held ≡ []
    → (played ≢ 3 → IsLabRun Mail Mail left played world (Some held) (Some after)) → (played ≡ 0) ⊎ (played ≡ 2)
    → status ≡ looked_status answer → Looked Starving (IsLook sees played world after) answer before last
    → IsLookRun Starving sees left status before last
looked_at Starving sees left world played held after before last status answer none run ended is looked = record {
  played = played;
  world = world;
  transcript = after;
  plays = subst (λ (xs : List ℕ). IsLabRun Mail Mail left played world (Some xs) (Some after)) none (run (not_three played ended));
  comes = inr (record {
    answer = answer;
    status_is = is;
    looked = looked;
  });
}
