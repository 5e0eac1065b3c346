-- The text of the reports on prefixes.
use Rattle.hn_base.proofs.Names.{◌≡◌, ◌∙◌, ℕ, List, [], ◌∷◌, ◌++◌, ap, length, decimal, name_text}
use Rattle.hn_report.proofs.Names.{map, codes, Assigned, Name, prefix_line, yes_no}
use Rattle.hn_prefix.specs.PrefixText.{prefix_text_of}
use Rattle.hn_report.specs.PrefixReports.{published_text}

-- the lines on these assignments, of which the first says how many they are
abbrev pub assigned_head : Name → List Assigned → List ℕ
assigned_head name assigned = codes "prefixes " ++ name_text name ++ codes " " ++ decimal (length assigned) ++ 10 ∷ []

abbrev pub assigned_lines : Name → List Assigned → List (List ℕ)
assigned_lines name assigned = assigned_head name assigned ∷ map (prefix_line name) assigned

pub all_assigned : (name : Name) (assigned : List Assigned) (head : List ℕ) (none one all told : List (List ℕ)) → none ≡ [] → one ≡ none ++ head ∷ []
    → all ≡ one ++ map (prefix_line name) assigned → told ≡ all → head ≡ assigned_head name assigned → told ≡ assigned_lines name assigned
all_assigned name assigned head none one all told none_is one_is all_is told_is head_is =
    told_is
    ∙ all_is
    ∙ ap (λ (lines : List (List ℕ)). lines ++ map (prefix_line name) assigned) (one_is ∙ ap (λ (lines : List (List ℕ)). lines ++ head ∷ []) none_is)
    ∙ ap (λ (h : List ℕ). h ∷ map (prefix_line name) assigned) head_is

-- the text of a line on an assignment
abbrev pub assigned_text : Name → ℕ → List ℕ → List ℕ → List ℕ → List ℕ → List ℕ
assigned_text name e delegated prefix published applied =
    codes "prefix " ++ name_text name ++ codes " ep=" ++ decimal e ++ codes " in=" ++ delegated
    ++ codes " is=" ++ prefix ++ codes " published=" ++ published
    ++ codes " applied=" ++ applied ++ 10 ∷ []

pub assigned_so : (name : Name) (c : Assigned) (delegated prefix published applied line : List ℕ) → delegated ≡ prefix_text_of c.delegated
    → prefix ≡ prefix_text_of c.prefix → published ≡ published_text c.published → applied ≡ yes_no c.applied
    → line ≡ assigned_text name c.endpoint.0 delegated prefix published applied → line ≡ prefix_line name c
assigned_so name c delegated prefix published applied line delegated_is prefix_is published_is applied_is line_is =
    let e = c.endpoint.0 in
    line_is
    ∙ ap (λ x. assigned_text name e x prefix published applied) delegated_is
    ∙ ap (λ x. assigned_text name e (prefix_text_of c.delegated) x published applied) prefix_is
    ∙ ap (λ x. assigned_text name e (prefix_text_of c.delegated) (prefix_text_of c.prefix) x applied) published_is
    ∙ ap (λ x. assigned_text name e (prefix_text_of c.delegated) (prefix_text_of c.prefix) (published_text c.published) x) applied_is
