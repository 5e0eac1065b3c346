-- What a router holds for its pairs of a delegated prefix and an endpoint (RFC 7695, section 4.1).
use Rattle.std.specs.Prelude.{◌≤◌, ◌==◌, not, List, [], length, filter, All, Option}
use Rattle.std.specs.Option.{option_map}
use Rattle.std.specs.List.{filter_map}
use Rattle.hn_pair.specs.declared.assigned.Assigned.{Assigned}
use Rattle.hn_pair.specs.declared.held.Held.{Held}
use Rattle.hn_pair.specs.Facts.{IsInDelegated, HasOwnPriority}
use Rattle.hn_pair.specs.Pair.{IsAscending, assigned_pair, backoff_pair}
use Rattle.hn_data.specs.declared.said.AssignedPrefix.{AssignedPrefix}

-- What holds of it: each pair has one assignment and one backoff at most, in ascending order. There are at most 544
-- assignments; each is inside its delegated prefix, and has priority 2 where it is published.
pub record AreHeldPairs (held : Held) : Type 0 where
  pub assigned : IsAscending assigned_pair held.assigned
  pub backoffs : IsAscending backoff_pair held.backoffs
  pub few : length held.assigned ≤ 544
  pub inside : All IsInDelegated held.assigned
  pub priority : All HasOwnPriority held.assigned

-- nothing
abbrev pub no_pairs : Held
no_pairs = record { assigned = []; backoffs = [] }

-- what is held for other pairs than those of endpoint 0, the post of a private link
abbrev pub without_private : Held → Held
without_private held = record {
  assigned = filter (λ c. not (c.endpoint.0 == 0)) held.assigned;
  backoffs = filter (λ b. not (b.endpoint.0 == 0)) held.backoffs;
}

-- what a router publishes of an assignment, if it publishes it, and of all of them
abbrev pub publication_of : Assigned → Option AssignedPrefix
publication_of c = option_map (λ priority. record { endpoint = c.endpoint; priority = priority; prefix = c.prefix }) c.published

abbrev pub published_in : List Assigned → List AssignedPrefix
published_in assigned = filter_map publication_of assigned
