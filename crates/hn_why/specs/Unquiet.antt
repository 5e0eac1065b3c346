-- What is said of a witness by which a router is not quiet.
use Rattle.std.specs.Prelude.{ℕ, List, [], ◌∷◌, ◌++◌, codes}
use Rattle.std.specs.Fmt.{decimal}
use Rattle.hn_audit.specs.declared.witness.Unquiet.{Unquiet}
use Rattle.hn_audit.specs.declared.witness.Unquiet.TheVariants as act
use Rattle.hn_base.specs.Name.{name_text}
use Rattle.hn_prefix.specs.PrefixText.{prefix_text_of}
use Rattle.hn_why.specs.Words.{pair_words}

-- its words: what the router would do, and at which pair
abbrev pub unquiet_words : Unquiet → List ℕ
unquiet_words (act.Unasked router e delegated prefix) = codes "unasked" ++ pair_words router e delegated ++ codes " is=" ++ prefix_text_of prefix
unquiet_words (act.Makes router e delegated) = codes "makes" ++ pair_words router e delegated
unquiet_words (act.Takes router e delegated best) = codes "takes" ++ pair_words router e delegated ++ codes " best=" ++ prefix_text_of best
unquiet_words (act.Drops router e delegated prefix) = codes "drops" ++ pair_words router e delegated ++ codes " is=" ++ prefix_text_of prefix
unquiet_words (act.Changes router e delegated prefix best) =
    codes "changes" ++ pair_words router e delegated ++ codes " is=" ++ prefix_text_of prefix ++ codes " best=" ++ prefix_text_of best

-- a sentence on it
abbrev pub unquiet_sentence : Unquiet → List ℕ
unquiet_sentence (act.Unasked router e delegated prefix) =
    name_text router ++ codes " would give up " ++ prefix_text_of prefix ++ codes " at endpoint " ++ decimal e.0
    ++ codes ": it asks for no prefix in " ++ prefix_text_of delegated ++ codes " there." ++ 10 ∷ []
unquiet_sentence (act.Makes router e delegated) =
    name_text router ++ codes " would assign a prefix in " ++ prefix_text_of delegated ++ codes " to endpoint " ++ decimal e.0 ++ codes "." ++ 10 ∷ []
unquiet_sentence (act.Takes router e delegated best) =
    name_text router ++ codes " would take " ++ prefix_text_of best ++ codes " in " ++ prefix_text_of delegated ++ codes " at endpoint " ++ decimal e.0
    ++ codes ", as another node has it there." ++ 10 ∷ []
unquiet_sentence (act.Drops router e delegated prefix) =
    name_text router ++ codes " would give up or publish " ++ prefix_text_of prefix ++ codes " in " ++ prefix_text_of delegated
    ++ codes " at endpoint " ++ decimal e.0 ++ codes "." ++ 10 ∷ []
unquiet_sentence (act.Changes router e delegated prefix best) =
    name_text router ++ codes " would not leave " ++ prefix_text_of prefix ++ codes " in " ++ prefix_text_of delegated ++ codes " at endpoint " ++ decimal e.0
    ++ codes " as it is beside " ++ prefix_text_of best ++ codes " of another node." ++ 10 ∷ []
