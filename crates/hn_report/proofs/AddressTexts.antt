-- The text of the reports on addresses.
use Rattle.hn_base.proofs.Names.{◌≡◌, ◌∙◌, ℕ, List, [], ◌∷◌, ◌++◌, ap, length, decimal, name_text}
use Rattle.hn_report.proofs.Names.{map, codes, Name, OwnAddress, address_line}

-- the lines on these addresses, of which the first says how many they are
abbrev pub addresses_head : Name → List OwnAddress → List ℕ
addresses_head name addresses = codes "addresses " ++ name_text name ++ codes " " ++ decimal (length addresses) ++ 10 ∷ []

abbrev pub lines_on : Name → List OwnAddress → List (List ℕ)
lines_on name addresses = addresses_head name addresses ∷ map (address_line name) addresses

pub all_lines : (name : Name) (addresses : List OwnAddress) (head : List ℕ) (none one all : List (List ℕ)) → none ≡ [] → one ≡ none ++ head ∷ []
    → all ≡ one ++ map (address_line name) addresses → head ≡ addresses_head name addresses → all ≡ lines_on name addresses
all_lines name addresses head none one all none_is one_is all_is head_is =
    all_is
    ∙ ap (λ (lines : List (List ℕ)). lines ++ map (address_line name) addresses) (one_is ∙ ap (λ (lines : List (List ℕ)). lines ++ head ∷ []) none_is)
    ∙ ap (λ (h : List ℕ). h ∷ map (address_line name) addresses) head_is
