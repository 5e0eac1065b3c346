-- Options of the caller's, which are read behind a header of an advertisement.
use Rattle.std.specs.Prelude.{◌≡◌, ◌⊎◌, ℕ, List, [], ◌∷◌, ◌++◌, Bool, true, false, Result, Ok, Err}
use Rattle.hn_base.proofs.Names.{◌∙◌, refl, sym, ap, subst, arith, inl, inr}
use mathlib.Core.Bool.{true≢false}
use Rattle.hn_advert.specs.declared.fault.RaFault.{RaFault}
use Rattle.hn_advert.specs.declared.fault.ReadFault.{ReadFault}
use Rattle.hn_advert.specs.declared.fault.ReadFault.TheVariants.{Ra, NoMemory}
use Rattle.hn_advert.specs.declared.advert.Advert.{Advert}
use Rattle.hn_advert.specs.Layout.{Header, IsHeader}
use Rattle.hn_advert.specs.Advert.{IsAdvert, advert_of}
use Rattle.hn_advert.specs.Reading.{HasOptions}

-- a header of which each field is 0, and its bytes
abbrev pub plain : Header
plain = record { checksum = 0; hop_limit = 0; managed = false; other = false; reserved = 0; lifetime = 0; reachable_time = 0; retrans_timer = 0 }

plain_fits : IsHeader plain
plain_fits = record { checksum = omega arith; hop_limit = omega arith; reserved = omega arith; lifetime = omega arith; reachable_time = omega arith; retrans_timer = omega arith }

abbrev pub front : List ℕ
front = 134 ∷ 0 ∷ 0 ∷ 0 ∷ 0 ∷ 0 ∷ 0 ∷ 0 ∷ 0 ∷ 0 ∷ 0 ∷ 0 ∷ 0 ∷ 0 ∷ 0 ∷ 0 ∷ []

-- options make an advertisement behind it
pub make_advert : (bytes : List ℕ) (has : HasOptions bytes) → IsAdvert (front ++ bytes) (advert_of plain has.options)
make_advert bytes has = record {
  header = plain;
  options = has.options;
  header_fits = plain_fits;
  options_fit = has.fit;
  parts = ap (λ (bs : List ℕ). front ++ bs) has.parts;
  advert_is = refl;
}

-- so that no fault is found in options
abbrev pub is_fault : Result Advert ReadFault → Bool
is_fault (Ok advert) = false
is_fault (Err (Ra fault)) = true
is_fault (Err NoMemory) = false

-- a reading that answers an error answers the advertisement, or that memory ran out
abbrev pub Refuses : ReadFault → Advert → Type 0
Refuses e advert = (◌≡◌ {A = Result Advert ReadFault} (Err e) (Ok advert)) ⊎ (◌≡◌ {A = Result Advert ReadFault} (Err e) (Err NoMemory))

neither : (e : ReadFault) (fault : RaFault) (advert : Advert) → e ≡ Ra fault → Refuses e advert → ⊥
neither e fault advert is (inl read) = true≢false (sym (ap (λ (r : ReadFault). is_fault (Err r)) is) ∙ ap is_fault read)
neither e fault advert is (inr full) = true≢false (sym (ap (λ (r : ReadFault). is_fault (Err r)) is) ∙ ap is_fault full)

pub not_refused : (bytes whole : List ℕ) (e : ReadFault) (fault : RaFault) → whole ≡ front ++ bytes → e ≡ Ra fault
    → ((advert : Advert) → IsAdvert whole advert → Refuses e advert) → HasOptions bytes → ⊥
not_refused bytes whole e fault same is at has =
    neither e fault (advert_of plain has.options) is
    (at (advert_of plain has.options) (subst (λ (bs : List ℕ). IsAdvert bs (advert_of plain has.options)) (sym same) (make_advert bytes has)))
