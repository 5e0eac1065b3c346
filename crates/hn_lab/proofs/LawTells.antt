-- Lines come up in one way; where all is cut there, the text is a front.
use Rattle.hn_base.proofs.Names.{◌≡◌, ◌∙◌, ◌⊎◌, inl, inr, ℕ, List, [], ◌∷◌, ◌++◌, append_assoc, Option, None, Some, refl, sym, ap, subst, map-append}
use Rattle.hn_lab.proofs.Names.{append-nil, IoFault, Stop, Refused, WireFailed, Cut, IsKnownRoute, Unless, Stage, telling, TellsLines, TellsSome, IsOneLine, Reports, Told, told}
use Rattle.hn_lab.proofs.LawAlike.{Grows, Agree, AreOne, FirstIsShort, SecondIsShort, IsSole, sole_unless, sole_then}

-- of two fronts of a list, one is a front of the other
fronts : {X : Type 0} (xs us ys vs : List X) → xs ++ us ≡ ys ++ vs → ((more : List X) × (ys ≡ xs ++ more)) ⊎ ((more : List X) × (xs ≡ ys ++ more))
fronts [] us ys vs same = inl (ys, refl)
fronts (x ∷ xs) us [] vs same = inr (x ∷ xs, refl)
fronts (x ∷ xs) us (y ∷ ys) vs same =
    let heads : x ≡ y = cc in
    let tails : xs ++ us ≡ ys ++ vs = cc in
    elim (fronts xs us ys vs tails) [
      | inl shorter ↦ inl (shorter.0, λ i. sym heads i ∷ shorter.1 i)
      | inr longer ↦ inr (longer.0, λ i. heads i ∷ longer.1 i)
    ]

-- these lines came up, and of all lines no others before them
record AreFirst (lines first : List (List ℕ)) (p a : Stage) : Type 0 where
  rest : List (List ℕ)
  lines_are : lines ≡ first ++ rest
  tells : a ≡ telling first p

first_of : (lines : List (List ℕ)) (c : Option Stop) (p a : Stage) → TellsLines lines c p a → (first : List (List ℕ)) × AreFirst lines first p a
first_of lines None p a h = (lines, record { rest = []; lines_are = sym (append-nil lines); tells = h })
first_of lines (Some (Refused code)) p a h = absurd h
first_of lines (Some WireFailed) p a h = absurd h
first_of lines (Some (Cut fault)) p a h =
    (h.0 ++ h.1 ∷ [], record { rest = h.2; lines_are = h.3 ∙ sym (append_assoc h.0 (h.1 ∷ []) h.2); tells = h.4 })

-- more lines, more text
grows_by : (first lines more : List (List ℕ)) (p a b : Stage) → a ≡ telling first p → b ≡ telling lines p → lines ≡ first ++ more → Grows a b
grows_by first lines more p a b is_a is_b lines_are = (
  told p.world more,
  ap (λ (s : Stage). s.text) is_b
      ∙ ap (λ (ls : List (List ℕ)). p.text ++ told p.world ls) lines_are
      ∙ ap (λ (ts : List Told). p.text ++ ts) (map-append _ first more)
      ∙ sym (append_assoc p.text (told p.world first) (told p.world more))
      ∙ ap (λ (s : Stage). s.text ++ told p.world more) (sym is_a),
)

module _ (lines : List (List ℕ)) where
  cuts_agree : (f g : IoFault) (p a b : Stage) → TellsLines lines (Some (Cut f)) p a → TellsLines lines (Some (Cut g)) p b → Agree (Some (Cut f)) (Some (Cut g)) a b
  cuts_agree f g p a b h k =
      let x = first_of lines (Some (Cut f)) p a h in
      let y = first_of lines (Some (Cut g)) p b k in
      elim (fronts x.0 x.1.rest y.0 y.1.rest (sym x.1.lines_are ∙ y.1.lines_are)) [
        | inl shorter ↦ FirstIsShort tt (grows_by x.0 y.0 shorter.0 p a b x.1.tells y.1.tells shorter.1)
        | inr longer ↦ SecondIsShort tt (grows_by y.0 x.0 longer.0 p b a y.1.tells x.1.tells longer.1)
      ]

  pub tells_agree : (c d : Option Stop) (p a b : Stage) → TellsLines lines c p a → TellsLines lines d p b → Agree c d a b
  tells_agree None None p a b h k = AreOne refl (h ∙ sym k)
  tells_agree None (Some (Cut g)) p a b h k =
      let y = first_of lines (Some (Cut g)) p b k in
      SecondIsShort tt (grows_by y.0 lines y.1.rest p b a y.1.tells h y.1.lines_are)
  tells_agree (Some (Cut f)) None p a b h k =
      let x = first_of lines (Some (Cut f)) p a h in
      FirstIsShort tt (grows_by x.0 lines x.1.rest p a b x.1.tells k x.1.lines_are)
  tells_agree (Some (Cut f)) (Some (Cut g)) p a b h k = cuts_agree f g p a b h k
  tells_agree (Some (Refused code)) d p a b h k = absurd h
  tells_agree (Some WireFailed) d p a b h k = absurd h
  tells_agree c (Some (Refused code)) p a b h k = absurd k
  tells_agree c (Some WireFailed) p a b h k = absurd k

  pub grows_tells : (c : Option Stop) (p a : Stage) → TellsLines lines c p a → Grows p a
  grows_tells c p a h = let all = first_of lines c p a h in (told p.world all.0, ap (λ (s : Stage). s.text) all.1.tells)

  pub sole_tells : IsSole (TellsLines lines)
  sole_tells = record {
    one = λ c d p a b told h k. tells_agree c d p a b h k;
    keeps = λ p a told h. subst (λ (s : Stage). IsKnownRoute s.route) (sym h) told;
    grows = grows_tells;
  }

-- ---- reports

-- a report tells one thing
pub record IsOneReport {A : Type 0} (IsReport : A → Type 0) : Type 0 where
  pub one : (l m : A) → IsReport l → IsReport m → l ≡ m

sole_some : (AreReport : List (List ℕ) → Type 0) → IsOneReport AreReport → IsSole (TellsSome AreReport)
sole_some AreReport report = record {
  one = λ c d p a b told h k.
      (sole_tells h.0).one c d p a b told h.2 (subst (λ (lines : List (List ℕ)). TellsLines lines d p b) (report.one k.0 h.0 k.1 h.1) k.2);
  keeps = λ p a told h. (sole_tells h.0).keeps p a told h.2;
  grows = λ c p a h. (sole_tells h.0).grows c p a h.2;
}

pub sole_reports : (unless : Option ℕ) (AreReport : List (List ℕ) → Type 0) → IsOneReport AreReport → IsSole (Reports unless AreReport)
sole_reports unless AreReport report = sole_then (Unless unless) (TellsSome AreReport) (sole_unless unless) (sole_some AreReport report)

-- of one line
pub one_line : (IsReport : List ℕ → Type 0) → IsOneReport IsReport → IsOneReport (IsOneLine IsReport)
one_line IsReport report = record { one = λ l m h k. h.2 ∙ ap (λ (line : List ℕ). line ∷ []) (report.one h.0 k.0 h.1 k.1) ∙ sym k.2 }
