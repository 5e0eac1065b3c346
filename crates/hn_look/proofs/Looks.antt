-- What a look comes to.
use Rattle.hn_base.proofs.Names.{◌≡◌, ◌≢◌, ◌⊎◌, ℕ, zero, suc, List, [], ◌∷◌, ◌++◌, Option, None, Some, Result, Ok, Err, inl, inr, refl, sym, ap, subst, lit<, arith, IfOk, Appends}
use Rattle.hn_look.proofs.Names.{append-nil, IoFault, Failed, NoMemory, PiecesAppend, AppendsPart, IsTableText, IsWhy, Member, Parts, EndsRefused, Says, SeesCalm, SeesTable, SeesWhy}
use Rattle.std.specs.Prelude.{Contains}
use Rattle.hn_calm.specs.Text.{IsCalmText}
use Rattle.hn_world.specs.Names.{member_named}
use Rattle.hn_world.specs.Asked.{of_router, unless_running}
use Rattle.hn_look.specs.Look.{SeesOf, IsRefusedLook, IsLook, Writes, Looked, TableOf, WhyUnless, CalmUnless, looked_status}
use Rattle.hn_look.proofs.Streams.{AppendsCut-more, Appends-none, part_is_cut}

-- a text that is of one kind is of another
pub looked_as : (Starving : Type 0) (IsText IsOther : ℕ → List ℕ → Type 0) → ((status : ℕ) (text : List ℕ) → IsText status text → IsOther status text)
    → (answer : Result ℕ IoFault) (a b : Option (List ℕ)) → Looked Starving IsText answer a b → Looked Starving IsOther answer a b
looked_as Starving IsText IsOther as_other (Ok status) a b h = (h.0, as_other status h.0 h.1, h.2)
looked_as Starving IsText IsOther as_other (Err fault) a b (inl h) = inl (h.0, h.1, as_other h.0 h.1 h.2, h.3)
looked_as Starving IsText IsOther as_other (Err fault) a b (inr h) = inr h

module _ (Starving : Type 0) (sees : Parts → ℕ → List ℕ → Type 0) (world : Option Parts) (transcript : List ℕ) where
  -- what was seen is all that is to be written, if the script was not refused
  pub whole_look : (played : ℕ) → played ≡ 0 → (answer : Result ℕ IoFault) (a b : Option (List ℕ)) → Looked Starving (SeesOf sees world) answer a b
      → Looked Starving (IsLook sees played world transcript) answer a b
  whole_look played done answer a b h =
      looked_as Starving (SeesOf sees world) (IsLook sees played world transcript) (λ status text seen. inl (done, seen)) answer a b h

  -- and else the line of the refusal comes last
  refused_look : (seen : ℕ) (look line : List ℕ) → SeesOf sees world seen look → EndsRefused transcript line → IsRefusedLook sees world transcript 2 (look ++ line)
  refused_look seen look line so ends = record { seen = seen; look = look; line = line; sees_so = so; ends = ends; status_is = refl; text_is = refl }

  pub cut_look : PiecesAppend → (played : ℕ) → played ≡ 2 → (line : List ℕ) → EndsRefused transcript line → (fault : IoFault) (a b : Option (List ℕ))
      → Looked Starving (SeesOf sees world) (Err fault) a b → Looked Starving (IsLook sees played world transcript) (Err fault) a b
  cut_look append played two line ends fault a b (inl h) =
      inl (2, h.1 ++ line, inr (two, refused_look h.0 h.1 line h.2 ends), AppendsCut-more append fault a a b [] h.1 line (h.1 ++ line) (Appends-none a) h.3 refl)
  cut_look append played two line ends fault a b (inr h) = inr h

  pub cut_line : PiecesAppend → (played : ℕ) → played ≡ 2 → (line : List ℕ) → EndsRefused transcript line → (status : ℕ) (a b c : Option (List ℕ)) → Writes (SeesOf sees world) status a b
      → (fault : IoFault) → AppendsPart b c line
      → Looked Starving (IsLook sees played world transcript) (Err fault) a c
  cut_line append played two line ends status a b c h fault cut = inl (
    2,
    h.0 ++ line,
    inr (two, refused_look status h.0 line h.1 ends),
    AppendsCut-more append fault a b c h.0 line [] (h.0 ++ line) h.2 (part_is_cut fault b c line cut) (ap
        (λ xs. h.0 ++ xs) (sym (append-nil line))),
  )

  pub written_line : PiecesAppend → (played : ℕ) → played ≡ 2 → (line : List ℕ) → EndsRefused transcript line → (status : ℕ) (a b c : Option (List ℕ))
      → Writes (SeesOf sees world) status a b → Appends b c line
      → Writes (IsLook sees played world transcript) 2 a c
  written_line append played two line ends status a b c h wrote =
      (h.0 ++ line, inr (two, refused_look status h.0 line h.1 ends), append a b c h.0 line h.2 wrote)

-- ---- texts that are written at once

pub table_said : (name : List ℕ) (w : Parts) (m : Member) (text more : List ℕ) (status : ℕ) → member_named name w ≡ Some m → IsTableText name m text → Says text status more
    → SeesTable name w status more
table_said name w m text more status is holds said =
    subst (λ (o : Option Member). TableOf name o status more) (sym is) (said.0, subst (IsTableText name m) (sym said.1) holds)

pub why_said : (name : List ℕ) (w : Parts) (text more : List ℕ) (status : ℕ) → of_router unless_running (member_named name w) ≡ None → IsWhy name w text → Says text status more
    → SeesWhy name w status more
why_said name w text more status runs holds said =
    subst (λ (o : Option ℕ). WhyUnless o name w status more) (sym runs) (said.0, subst (IsWhy name w) (sym said.1) holds)

pub calm_said : (name : List ℕ) (w : Parts) (text more : List ℕ) (status : ℕ) → of_router unless_running (member_named name w) ≡ None → IsCalmText name w text → Says text status more
    → SeesCalm name w status more
calm_said name w text more status runs holds said =
    subst (λ (o : Option ℕ). CalmUnless o name w status more) (sym runs) (said.0, subst (IsCalmText name w) (sym said.1) holds)

-- ---- statuses

pub status_of_look : (answer : Result ℕ IoFault) → IfOk answer (λ status. (status ≡ 0) ⊎ (status ≡ 2)) → Contains (0 ∷ 2 ∷ 3 ∷ 4 ∷ 6 ∷ []) (looked_status answer)
status_of_look (Ok status) (inl done) = (0, lit< tt, sym done)
status_of_look (Ok status) (inr two) = (1, lit< tt, sym two)
status_of_look (Err Failed) ok = (3, lit< tt, refl)
status_of_look (Err NoMemory) ok = (4, lit< tt, refl)

pub without_wire : (status : ℕ) → Contains (0 ∷ 2 ∷ 3 ∷ 4 ∷ 5 ∷ 6 ∷ []) status → status ≢ 5 → Contains (0 ∷ 2 ∷ 3 ∷ 4 ∷ 6 ∷ []) status
without_wire status (zero, within, is) unwired = (0, lit< tt, is)
without_wire status (suc zero, within, is) unwired = (1, lit< tt, is)
without_wire status (suc (suc zero), within, is) unwired = (2, lit< tt, is)
without_wire status (suc (suc (suc zero)), within, is) unwired = (3, lit< tt, is)
without_wire status (suc (suc (suc (suc zero))), within, is) unwired = absurd (unwired (sym is))
without_wire status (suc (suc (suc (suc (suc zero)))), within, is) unwired = (4, lit< tt, is)
without_wire status (suc (suc (suc (suc (suc (suc k))))), within, is) unwired = absurd (omega arith)
