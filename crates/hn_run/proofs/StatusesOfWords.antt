-- The words ask for one list of statuses.
use Rattle.hn_base.proofs.Names.{◌≡◌, ◌≢◌, ◌∙◌, ℕ, zero, suc, List, [], ◌∷◌, length, sym, ap, subst, lit<, arith}
use Rattle.hn_run.proofs.Names.{Contains, IsFormOf, Lab, Udp, Node, Decode, Watch, Soak}
use Rattle.hn_forms.specs.Form.{statuses_of}
use Rattle.hn_forms.specs.declared.words.Form.{Form}

-- the statuses of the form that so many words ask for
abbrev by_length : ℕ → List ℕ
by_length (suc (suc zero)) = 0 ∷ 2 ∷ 3 ∷ 4 ∷ 6 ∷ []
by_length (suc (suc (suc (suc zero)))) = 0 ∷ 2 ∷ 4 ∷ 6 ∷ []
by_length _ = 0 ∷ 2 ∷ 3 ∷ 4 ∷ 5 ∷ 6 ∷ []

of_length : (form : Form) (words : List (List ℕ)) → IsFormOf form words → by_length (length words) ≡ statuses_of form
of_length Lab words h = ap by_length (ap length h.1)
of_length (Udp base) words h = ap by_length (ap length h.2)
of_length (Node call) words h = ap by_length (ap length h.6)
of_length Decode words h = ap by_length (ap length h.1)
of_length Watch words h = ap by_length (ap length h.1)
of_length (Soak n seed) words h = ap by_length (ap length h.3)

-- a status of the form that was read is one of each form that the words ask for
pub ends_alike : (read form : Form) (words : List (List ℕ)) (status : ℕ) → IsFormOf read words → IsFormOf form words
    → Contains (statuses_of read) status → Contains (statuses_of form) status
ends_alike read form words status h k ends = subst (λ (all : List ℕ). Contains all status) (sym (of_length read words h) ∙ of_length form words k) ends

-- a status that is not that of a failed wire
pub without_wire : (status : ℕ) → Contains (0 ∷ 2 ∷ 3 ∷ 4 ∷ 5 ∷ 6 ∷ []) status → status ≢ 5 → Contains (0 ∷ 2 ∷ 3 ∷ 4 ∷ 6 ∷ []) status
without_wire status (zero, within, is) other = (0, lit< tt, is)
without_wire status (suc zero, within, is) other = (1, lit< tt, is)
without_wire status (suc (suc zero), within, is) other = (2, lit< tt, is)
without_wire status (suc (suc (suc zero)), within, is) other = (3, lit< tt, is)
without_wire status (suc (suc (suc (suc zero))), within, is) other = absurd (other (sym is))
without_wire status (suc (suc (suc (suc (suc zero)))), within, is) other = (4, lit< tt, is)
without_wire status (suc (suc (suc (suc (suc (suc k))))), within, is) other = absurd (omega arith)
