-- The words of a call's peers are read as ports, one after the other.
use Rattle.hn_base.proofs.Names.{◌≡◌, ◌∙◌, ◌<◌, ◌≤◌, ◌+◌, zero, suc, ℕ, List, [], ◌∷◌, length, take, get_or, slice_set, refl, sym, ap, subst, arith, length-set, AllZip}
use Rattle.hn_forms.proofs.Names.{IsNumberText, ArePeerPorts}

abbrev IsPort : List ℕ → ℕ → Type 0
IsPort word port = IsNumberText 1024 65534 word port

-- the ports of so many of the words are read
pub record ArePorted (words : List (List ℕ)) (i : ℕ) (ports : List ℕ) : Type 0 where
  pub long : length ports ≡ 8
  pub are : AllZip IsPort (take i words) (take i ports)

pub none_ported : (words : List (List ℕ)) (ports : List ℕ) → length ports ≡ 8 → ArePorted words 0 ports
none_ported words ports long = record { long = long; are = tt }

more : (words : List (List ℕ)) (i : ℕ) (ports : List ℕ) (port : ℕ) → i < length words → i < length ports → AllZip IsPort (take i words) (take i ports)
    → IsPort (get_or words i []) port → AllZip IsPort (take (suc i) words) (take (suc i) (slice_set ports i port))
more [] i ports port within there were is = absurd (omega arith)
more (w ∷ words) i [] port within there were is = absurd (omega arith)
more (w ∷ words) zero (p ∷ ports) port within there were is = (is, tt)
more (w ∷ words) (suc i) (p ∷ ports) port within there were is = (were.0, more words i ports port (omega arith) (omega arith) were.1 is)

pub one_more : (words : List (List ℕ)) (i : ℕ) (ports : List ℕ) (port : ℕ) (word : List ℕ) → i < length words → i < 8 → get_or words i [] ≡ word
    → IsPort word port → ArePorted words i ports → ArePorted words (i + 1) (slice_set ports i port)
one_more words i ports port word within there at is were =
    let long = were.long in
    let next : suc i ≡ i + 1 = omega arith in
    record {
      long = length-set ports i port ∙ were.long;
      are = subst (λ (k : ℕ). AllZip IsPort (take k words) (take k (slice_set ports i port))) next
          (more words i ports port within (omega arith) were.are (subst (λ (w : List ℕ). IsPort w port) (sym at) is));
    }

not_all : (words : List (List ℕ)) (ports : List ℕ) (i : ℕ) → i < length words → ((n : ℕ) → IsPort (get_or words i []) n → ⊥) → AllZip IsPort words ports → ⊥
not_all [] ports i within none are = absurd (omega arith)
not_all (w ∷ words) [] i within none are = are
not_all (w ∷ words) (p ∷ ports) zero within none are = none p are.0
not_all (w ∷ words) (p ∷ ports) (suc i) within none are = not_all words ports i (omega arith) none are.1

pub no_peers : (words : List (List ℕ)) (i : ℕ) (word : List ℕ) → i < length words → get_or words i [] ≡ word
    → ((n : ℕ) → IsNumberText 1024 65534 word n → ⊥) → (count : ℕ) (ports : List ℕ) → ArePeerPorts words count ports → ⊥
no_peers words i word within at none count ports are = not_all words (take count ports) i within (λ n is. none n (subst (λ (w : List ℕ). IsPort w n) at is)) are.are

whole : (words : List (List ℕ)) → take (length words) words ≡ words
whole [] = refl
whole (w ∷ words) = ap (λ (rest : List (List ℕ)). w ∷ rest) (whole words)

pub all_ported : (words : List (List ℕ)) (i n : ℕ) (ports : List ℕ) → i ≡ n → length words ≡ n → 0 < n → n ≤ 8 → ArePorted words i ports → ArePeerPorts words n ports
all_ported words i n ports end long some most were = record {
  some = some;
  most = most;
  places = were.long;
  are =
      let all = subst (λ (k : ℕ). AllZip IsPort (take k words) (take k ports)) end were.are in
      subst (λ (ws : List (List ℕ)). AllZip IsPort ws (take n ports)) (ap (λ (k : ℕ). take k words) (sym long) ∙ whole words) all;
}

-- ---- the ports of peers

zip_length : {A B : Type 0} (P : A → B → Type 0) (xs : List A) (ys : List B) → AllZip P xs ys → length xs ≡ length ys
zip_length P [] [] h = refl
zip_length P [] (y ∷ ys) h = absurd h
zip_length P (x ∷ xs) [] h = absurd h
zip_length P (x ∷ xs) (y ∷ ys) h = ap suc (zip_length P xs ys h.1)

take_length : (n : ℕ) (xs : List ℕ) → n ≤ length xs → length (take n xs) ≡ n
take_length zero xs within = refl
take_length (suc n) [] within = absurd (omega arith)
take_length (suc n) (x ∷ xs) within = ap suc (take_length n xs (omega arith))

-- as many words as ports
pub as_many : (words : List (List ℕ)) (count : ℕ) (ports : List ℕ) → ArePeerPorts words count ports → length words ≡ count
as_many words count ports are =
    let most = are.most in
    let eight = are.places in
    zip_length (IsNumberText 1024 65534) words (take count ports) are.are ∙ take_length count ports (omega arith)
