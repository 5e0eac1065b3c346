-- A quiet router: no router of its set would make, change or destroy an assignment. Backoffs that wait are no part of it.
use Rattle.std.specs.Prelude.{List, All}
use Rattle.hn_assign.specs.declared.advertised.Advertised.{Advertised}
use Rattle.hn_pair.specs.declared.assigned.Wish.{Wish}
use Rattle.hn_assign.specs.Fixed.{AreAtRest}
use Rattle.hn_assign.specs.Gathered.{AreAdvertised}
use Rattle.hn_pair.specs.Pair.{IsWished, assigned_pair}
use Rattle.hn_deleg.specs.declared.delegated.Delegated.{Delegated}
use Rattle.hn_deleg.specs.Used.{AreUsable}
use Rattle.hn_rules.specs.declared.state.State.{State}
use Rattle.hn_rules.specs.Assigning.{AreAsked}
use Rattle.hn_rules.specs.Seen.{seen_by}
use Rattle.hn_world.specs.declared.member.Member.{Member}
use Rattle.hn_world.specs.declared.parts.Parts.{Parts}
use Rattle.hn_audit.specs.Reached.{IsReached}

-- A router at rest, as it sees the network at its moment: each of its assignments is for a pair that it asks for, and
-- each of these pairs is at rest.
pub record IsRouterAtRest (s : State) : Type 0 where
  pub usable : List Delegated
  pub are_usable : AreUsable (seen_by s) usable
  pub wishes : List Wish
  pub are_asked : AreAsked s usable wishes
  pub advertised : List Advertised
  pub are_advertised : AreAdvertised (seen_by s) s.held.assigned advertised
  pub wished : All (λ c. IsWished wishes (assigned_pair c)) s.held.assigned
  pub at_rest : AreAtRest advertised s.id.0 wishes s.held.assigned

-- each of the set of r is at rest
abbrev pub IsQuietByRules : Parts → Member → Type 0
IsQuietByRules w r = (s : Member) → IsReached w r s → IsRouterAtRest s.router
