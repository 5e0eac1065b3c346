-- What is said of a router on whether its home is calm. In templates digits stand for parts.
use Rattle.std.specs.Prelude.{◌≡◌, ◌⊎◌, ℕ, List, [], ◌∷◌, ◌++◌, codes, Some}
use Rattle.hn_base.specs.Name.{name_text}
use Rattle.hn_base.specs.declared.name.Name.{Name}
use Rattle.hn_audit.specs.Quiet.{IsQuietByRules}
use Rattle.hn_audit.specs.Settled.{IsSettledByRules}
use Rattle.hn_why.specs.declared.part.Part.{Part}
use Rattle.hn_why.specs.declared.part.Part.TheVariants as part
use Rattle.hn_why.specs.Parts.{filled_in}
use Rattle.hn_why.specs.Why.{IsWhy}
use Rattle.hn_world.specs.Names.{member_named}
use Rattle.hn_world.specs.declared.member.Member.{Member}
use Rattle.hn_world.specs.declared.parts.Parts.{Parts}
use Rattle.hn_calm.specs.Home.{FindsUncalm, IsCalmBefore}
use Rattle.hn_calm.specs.declared.uncalm.PeerAt.{PeerAt}
use Rattle.hn_calm.specs.declared.uncalm.Uncalm.{Uncalm}
use Rattle.hn_calm.specs.declared.uncalm.Uncalm.TheVariants as missing

-- on one whose home is calm before a moment
abbrev pub calm_said : Name → ℕ → List ℕ
calm_said name end =
    filled_in (part.Name name ∷ part.Moment end ∷ [])
    (codes "calm 0 calm=yes until=1"
    ++ 10 ∷ (codes "0 stays settled and quiet, with the same assignments, before 1, while its home runs without loss at steps of 22 s at most." ++ 10 ∷ []))

-- on one that is not settled or not quiet, before the text that tells why
abbrev pub restless_said : Name → List ℕ
restless_said name = filled_in (part.Name name ∷ []) (codes "calm 0 calm=no cause=restless" ++ 10 ∷ [])

-- on one whose home is not calm otherwise, before the witness
abbrev pub uncalm_begun : Name → List ℕ
uncalm_begun name = filled_in (part.Name name ∷ []) (codes "calm 0 calm=no cause=")

abbrev pub parts_of_peer : PeerAt → List Part
parts_of_peer at = part.Name at.router ∷ part.Endpoint at.endpoint ∷ part.Node at.node ∷ part.Endpoint at.peer ∷ []

-- a witness: its words, and a sentence on it
abbrev pub uncalm_said : Name → Uncalm → List ℕ
uncalm_said name (missing.Apart router) =
    filled_in (part.Name name ∷ part.Name router ∷ [])
    (codes "apart router=1"
    ++ 10 ∷ (codes "1 runs, and 0 does not reach it." ++ 10 ∷ []))
uncalm_said name (missing.Waits copy) =
    filled_in (part.Moment copy ∷ [])
    (codes "waits copy=0"
    ++ 10 ∷ (codes "Copy 0 waits: it was neither delivered nor dropped." ++ 10 ∷ []))
uncalm_said name (missing.Unlinked at) =
    filled_in (parts_of_peer at)
    (codes "unlinked router=0 ep=1 node=2 peer-ep=3"
    ++ 10 ∷ (codes "No running router has endpoint 3 of node 2, a peer of endpoint 1 of 0, on the link of that one." ++ 10 ∷ []))
uncalm_said name (missing.Unheard at contact) =
    filled_in (parts_of_peer at ++ part.Moment contact ∷ [])
    (codes "unheard router=0 ep=1 node=2 peer-ep=3 contact=4"
    ++ 10 ∷ (codes "0 last heard endpoint 3 of node 2 at 4, on endpoint 1, and that is too long ago." ++ 10 ∷ []))
uncalm_said name (missing.Missed at contact sent) =
    filled_in (parts_of_peer at ++ part.Moment contact ∷ part.Moment sent ∷ [])
    (codes "missed router=0 ep=1 node=2 peer-ep=3 contact=4 sent=5"
    ++ 10 ∷ (codes "0 last heard endpoint 3 of node 2 at 4, on endpoint 1, and that has sent since, at 5." ++ 10 ∷ []))
uncalm_said name (missing.Ended router) =
    filled_in (part.Name router ∷ [])
    (codes "ended router=0"
    ++ 10 ∷ (codes "A lifetime has ended that 0 keeps or sees, or node data are old." ++ 10 ∷ []))

-- the home of r, which has this name, is calm before a moment
pub record IsCalmSo (name : Name) (w : Parts) (r : Member) (text : List ℕ) : Type 0 where
  pub end : ℕ
  pub calm : IsCalmBefore end w r
  pub text_is : text ≡ calm_said name end

-- r is not settled or not quiet, and the text says why
pub record IsRestlessSo (name : Name) (w : Parts) (r : Member) (text : List ℕ) : Type 0 where
  pub restless : ¬ (IsSettledByRules w r × IsQuietByRules w r)
  pub why : List ℕ
  pub is_why : IsWhy (name_text name) w why
  pub text_is : text ≡ restless_said name ++ why

-- r is settled and quiet, and its home is not calm: a premise is missing, the first in the order of the definition
pub record IsUncalmSo (name : Name) (w : Parts) (r : Member) (text : List ℕ) : Type 0 where
  pub settled : IsSettledByRules w r
  pub quiet : IsQuietByRules w r
  pub uncalm : (end : ℕ) → ¬ IsCalmBefore end w r
  pub missing : Uncalm
  pub first : FindsUncalm w r (Some missing)
  pub text_is : text ≡ uncalm_begun name ++ uncalm_said name missing

-- what is said of the router of this name
abbrev pub IsCalmText : List ℕ → Parts → List ℕ → Type 0
IsCalmText name w text =
    (of : Name) × (name_text of ≡ name) × (r : Member) × (member_named name w ≡ Some r)
    × (IsCalmSo of w r text ⊎ (IsRestlessSo of w r text ⊎ IsUncalmSo of w r text))
