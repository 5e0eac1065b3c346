-- Texts that grow by a line for each element of a list.
use Rattle.hn_base.proofs.Names.{◌≡◌, ◌∙◌, ◌+◌, ◌<◌, ℕ, List, [], ◌∷◌, ◌++◌, codes, length, take, get_or, sym, ap, decimal, flat_map, flat_map_more, take_more, hex_text, id_text}
use Rattle.hn_table.proofs.Names.{Assigned, Member, table_line, assigned_line}
use Rattle.hn_base.specs.declared.ids.NodeId.{NodeId}
use Rattle.hn_prefix.specs.PrefixText.{prefix_text_of}
use Rattle.hn_base.specs.YesNo.{yes_no}
use Rattle.hn_table.specs.Lines.{published_word}

-- one more, as a `for` goes over a slice
module _ {A : Type 0} (f : A → List ℕ) (xs : List A) (i : ℕ) (begins so_far : List ℕ) where
  pub told_more : (x : A) (now : List ℕ) → i < length xs → x ≡ get_or xs i x → so_far ≡ begins ++ flat_map f (take i xs) → now ≡ so_far ++ f x → now ≡ begins ++ flat_map f (take (i + 1) xs)
  told_more x now within is before more =
      more ∙ ap (λ ys. ys ++ f x) before ∙ flat_map_more f begins (take i xs) x ∙ ap (λ ys. begins ++ flat_map f ys) (ap (λ y. take i xs ++ y ∷ []) is ∙ sym (take_more xs i x within))

-- the line of a router, by what it says
abbrev pub router_line : List ℕ → NodeId → ℕ → List ℕ → ℕ → List ℕ → List ℕ
router_line name id number net moment running =
    codes "table " ++ name ++ codes " node=" ++ id_text id.0 ++ codes " number=" ++ decimal number ++ codes " hash=" ++ hex_text net ++ codes " moment=" ++ decimal moment
    ++ codes " running=" ++ running ++ 10 ∷ []

pub router_told : (name : List ℕ) (m : Member) (id : NodeId) (number : ℕ) (net : List ℕ) (moment : ℕ) (running old now : List ℕ) → id ≡ m.router.id → number ≡ m.router.number → net ≡ m.router.net
    → moment ≡ m.router.moment → running ≡ yes_no m.running → now ≡ old ++ router_line name id number net moment running → now ≡ old ++ table_line name m
router_told name m id number net moment running old now id_is number_is net_is moment_is running_is told =
    told ∙ (λ i. old ++ router_line name (id_is i) (number_is i) (net_is i) (moment_is i) (running_is i))

-- the line of an assignment, by its texts
abbrev pub assignment_line : Assigned → List ℕ → List ℕ → List ℕ → List ℕ
assignment_line a delegated prefix applied =
    codes "assigned ep=" ++ decimal a.endpoint.0 ++ codes " in=" ++ delegated ++ codes " is=" ++ prefix ++ codes " since=" ++ decimal a.since ++ codes " applied=" ++ applied
    ++ codes " published=" ++ published_word a.published ++ 10 ∷ []

pub assignment_told : (a : Assigned) (delegated prefix applied old now : List ℕ) → delegated ≡ prefix_text_of a.delegated → prefix ≡ prefix_text_of a.prefix → applied ≡ yes_no a.applied
    → now ≡ old ++ assignment_line a delegated prefix applied → now ≡ old ++ assigned_line a
assignment_told a delegated prefix applied old now delegated_is prefix_is applied_is told = told ∙ (λ i. old ++ assignment_line a (delegated_is i) (prefix_is i) (applied_is i))
