-- Laws of exchanges.
use Rattle.std.specs.Prelude.{◌≡◌, ◌⊎◌, ◌↔◌, ◌++◌, ◌∷◌, [], ℕ, List, Option, None, Some}
use Rattle.hn_base.specs.declared.ids.EpId.{EpId}
use Rattle.hn_base.specs.declared.ids.NodeId.{NodeId}
use Rattle.hn_base.specs.declared.name.Name.{Name}
use Rattle.hn_dncp.specs.Packing.{datagram_of, IsPacking}
use Rattle.hn_own.specs.Ports.{ArePorts}
use Rattle.hn_world.specs.declared.event.Traced.{Traced}
use Rattle.hn_world.specs.declared.event.WEvent.{WEvent}
use Rattle.hn_world.specs.declared.member.Member.{Member}
use Rattle.hn_world.specs.declared.parts.Parts.{Parts}
use Rattle.hn_world.specs.Replay.{IsReplayed}
use Rattle.hn_sync.specs.Joined.{AreJoined, AreLeast, joint_of}
use Rattle.hn_sync.specs.Exchange.{request, IsQuestion, IsBegunExchange, IsExchange, ExchangeStopsAt, ExchangeEnds, HasAnEnd, unless_exchange}
use Rattle.hn_sync.specs.Repairs.{Repairs}

-- What is computed are the least endpoints by which two routers are joined.
abbrev pub JointIsLeast : Type 0
JointIsLeast =
    (a b : Member) (e f : EpId) → ArePorts a.router.ports → ArePorts b.router.ports
    → (joint_of a b ≡ Some (e, f)) ↔ AreLeast a e b f

-- There are none exactly where no endpoints of the two are joined.
abbrev pub NoJointWhereNoneJoined : Type 0
NoJointWhereNoneJoined =
    (a b : Member) → ArePorts a.router.ports → ArePorts b.router.ports
    → (joint_of a b ≡ None) ↔ ((e f : EpId) → ¬ AreJoined a e b f)

-- The datagram of a question is what a Request Network State is packed into, and nothing else is.
abbrev pub QuestionIsPacked : Type 0
QuestionIsPacked =
    (own : NodeId) (endpoint : EpId) (datagrams : List (List ℕ))
    → IsPacking own endpoint (request ∷ []) datagrams ↔ (datagrams ≡ datagram_of own endpoint (request ∷ []) ∷ [])

-- In a replayed world an exchange is refused before anything happens if and only if there is no question.
abbrev pub AsksOrIsRefused : Type 0
AsksOrIsRefused =
    (a b : Name) (w : Parts) → IsReplayed w → (unless_exchange a b w ≡ None) ↔ ((question : WEvent) × IsQuestion a b w question)

-- There is at most one question.
abbrev pub QuestionIsUnique : Type 0
QuestionIsUnique =
    (a b : Name) (w : Parts) (question other : WEvent) → IsQuestion a b w question → IsQuestion a b w other → question ≡ other

-- An exchange adds exactly its events to the trace.
abbrev pub ExchangeIsEntered : Type 0
ExchangeIsEntered =
    (a b : Name) (ts : List Traced) (next : Option WEvent) (before after : Parts)
    → IsBegunExchange a b ts next before after → after.trace ≡ before.trace ++ ts

-- two ends of an exchange are one: the code, the words that are left, and the world
pub record AreOneEnd (code other_code : Option ℕ) (rest other_rest : ℕ → ℕ) (after other : Parts) : Type 0 where
  pub code_is : code ≡ other_code
  pub rest_is : rest ≡ other_rest
  pub world_is : after ≡ other

-- From one world, over one stream of words that a draw tells, an exchange ends in at most one way.
abbrev pub ExchangeIsUnique : Type 0
ExchangeIsUnique =
    (a b : Name) (code other_code : Option ℕ) (told rest other_rest : ℕ → ℕ) (before after other : Parts)
    → ExchangeEnds a b code (Some told) (Some rest) before after
    → ExchangeEnds a b other_code (Some told) (Some other_rest) before other
    → AreOneEnd code other_code rest other_rest after other

-- An exchange of a replayed world ends, if there is a question: each event enters the trace, and the 1,000,001st is refused.
abbrev pub ExchangeExists : Type 0
ExchangeExists = (a b : Name) (w : Parts) → IsReplayed w → unless_exchange a b w ≡ None → HasAnEnd a b w

-- An exchange of a replayed world stops for lack of room alone: with 9, it would be the 1,000,001st event, or with 16, there is
-- too much mail.
abbrev pub StopsForRoomAlone : Type 0
StopsForRoomAlone =
    (a b : Name) (code : ℕ) (told told_after : Option (ℕ → ℕ)) (before after : Parts)
    → IsReplayed before → ExchangeStopsAt a b code told told_after before after → (code ≡ 9) ⊎ (code ≡ 16)

-- One exchange repairs: in a replayed world, a whole exchange leaves the router that asked with what the other one knows of
-- each node that it reaches, but for what was not older and for collisions.
abbrev pub ExchangeRepairs : Type 0
ExchangeRepairs =
    (a b : Name) (ts : List Traced) (before after : Parts) → IsReplayed before → IsExchange a b ts before after → Repairs a b before after
