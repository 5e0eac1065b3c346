-- Which answers are those of bytes with a fault.
use Rattle.hn_base.proofs.Names.{◌≡◌, ℕ, ◌↔◌, List, Result, Ok, Err, refl}
use Rattle.hn_advert.proofs.Names.{Advert, RaFault, IsAdvert, AdvertFault}
use Rattle.hn_base.proofs.Results.{tells_fault, tells_none}
use Rattle.hn_advert.specs.declared.fault.ReadFault.{ReadFault}
use Rattle.hn_advert.specs.declared.fault.ReadFault.TheVariants.{Ra, NoMemory}
use Rattle.hn_advert.proofs.Unique.{no_advert, same_fault}

abbrev Answer : Type 0
Answer = Result Advert ReadFault

abbrev IsIts : List ℕ → RaFault → Type 0
IsIts bytes fault = AdvertFault bytes fault.place fault.why

-- the answer is a fault if and only if the bytes have it
abbrev pub IsFaultExactly : List ℕ → Answer → Type 0
IsFaultExactly bytes answer = (place why : ℕ) → (answer ≡ Err (Ra (record { place = place; why = why }))) ↔ AdvertFault bytes place why

told_apart : (fault other : RaFault) → Ra fault ≡ Ra other → fault ≡ other
told_apart fault other e = cc

one_fault : (bytes : List ℕ) (fault other : RaFault) → IsIts bytes fault → IsIts bytes other → fault ≡ other
one_fault bytes fault other f g = let same = same_fault bytes fault.place other.place fault.why other.why f g in λ i. record { place = same.0 i; why = same.1 i }

pub fault_is_answered : (bytes : List ℕ) (fault : RaFault) → AdvertFault bytes fault.place fault.why → IsFaultExactly bytes (Err (Ra fault))
fault_is_answered bytes fault f place why = tells_fault Ra (IsIts bytes) told_apart (one_fault bytes) (Err (Ra fault)) fault refl f (record { place = place; why = why })

-- any other answer, to bytes that are an advertisement
other_is_answered : (bytes : List ℕ) (advert : Advert) (answer : Answer) → IsAdvert bytes advert → ((fault : RaFault) → ¬ (answer ≡ Err (Ra fault))) → IsFaultExactly bytes answer
other_is_answered bytes advert answer is untold place why = tells_none Ra (IsIts bytes) answer untold
    (λ fault f. no_advert bytes fault.place fault.why advert f is) (record { place = place; why = why })

pub advert_is_answered : (bytes : List ℕ) (advert : Advert) → IsAdvert bytes advert → IsFaultExactly bytes (Ok advert)
advert_is_answered bytes advert is = other_is_answered bytes advert (Ok advert) is (λ fault e. cc)

pub memory_is_answered : (bytes : List ℕ) (advert : Advert) → IsAdvert bytes advert → IsFaultExactly bytes (Err NoMemory)
memory_is_answered bytes advert is = other_is_answered bytes advert (Err NoMemory) is (λ fault e. cc)
