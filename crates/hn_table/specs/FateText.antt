-- What becomes of a delegated prefix, in words.
use Rattle.std.specs.Prelude.{ℕ, List, [], ◌∷◌, ◌++◌, codes}
use Rattle.std.specs.Fmt.{decimal}
use Rattle.hn_base.specs.HexText.{id_text}
use Rattle.hn_base.specs.declared.ids.NodeId.{NodeId}
use Rattle.hn_data.specs.declared.said.Delegation.{Delegation}
use Rattle.hn_prefix.specs.PrefixText.{prefix_text_of}
use Rattle.hn_table.specs.declared.fate.Fate.{Fate}
use Rattle.hn_table.specs.declared.fate.Fate.TheVariants.{Used, NoVersion, Ended, Long, Inside, Past, Unreachable}

-- whether it is used, and if not, why
abbrev pub fate_words : Fate → List ℕ
fate_words Used = codes "used=yes"
fate_words NoVersion = codes "used=no why=no-version"
fate_words Ended = codes "used=no why=ended"
fate_words Long = codes "used=no why=long"
fate_words (Inside outer) = codes "used=no why=inside outer=" ++ prefix_text_of outer
fate_words Past = codes "used=no why=past-32"
fate_words Unreachable = codes "used=no why=unreachable"

-- a delegated prefix that a node has, with its lifetimes in seconds, and what becomes of it
abbrev pub delegated_line : NodeId → Delegation → Fate → List ℕ
delegated_line node d fate =
    codes "delegated " ++ prefix_text_of d.prefix ++ codes " node=" ++ id_text node.0 ++ codes " valid=" ++ decimal d.valid
    ++ codes " preferred=" ++ decimal d.preferred ++ codes " " ++ fate_words fate ++ 10 ∷ []
