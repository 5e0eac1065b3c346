-- Laws of Common Links and elections.
use Rattle.std.specs.Prelude.{◌≡◌, ◌↔◌, ℕ, List}
use Rattle.hn_base.specs.declared.ids.NodeId.{NodeId}
use Rattle.hn_base.specs.declared.ids.EpId.{EpId}
use Rattle.hn_base.specs.declared.letter.Letter.{Letter}
use Rattle.hn_data.specs.Later.{IsLater}
use Rattle.hn_data.specs.View.{PlainView, IsNetwork}
use Rattle.hn_link.specs.CommonLink.{IsCommonLink}
use Rattle.hn_link.specs.Election.{IsElected}

-- An endpoint has one Common Link.
abbrev pub CommonLinkIsUnique : Type 0
CommonLinkIsUnique =
    (view : PlainView) (e : ℕ) (a b : List (NodeId × EpId)) → IsCommonLink view e a → IsCommonLink view e b → a ≡ b

-- Each own endpoint of a network has a Common Link.
abbrev pub CommonLinkExists : Type 0
CommonLinkExists =
    (view : PlainView) (e : ℕ) → IsNetwork view.own view.nodes → (common : List (NodeId × EpId)) × IsCommonLink view e common

-- The Common Link of an endpoint stays the same while time passes.
abbrev pub CommonLinkOfLater : Type 0
CommonLinkOfLater =
    (before after : PlainView) (e : ℕ) (common : List (NodeId × EpId)) → IsLater before after
    → IsCommonLink before e common ↔ IsCommonLink after e common

-- At most one node is elected.
abbrev pub ElectedIsUnique : Type 0
ElectedIsUnique =
    (view : PlainView) (common : List (NodeId × EpId)) (letter : Letter) (a b : NodeId)
    → IsElected view common letter a → IsElected view common letter b → a ≡ b
