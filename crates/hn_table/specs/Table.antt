-- What a router holds, as text.
use Rattle.std.specs.Prelude.{◌≡◌, ℕ, List, ◌++◌}
use Rattle.std.specs.List.{flat_map}
use Rattle.hn_deleg.specs.Used.{AreUsable}
use Rattle.hn_deleg.specs.declared.delegated.Delegated.{Delegated}
use Rattle.hn_rules.specs.Seen.{seen_by}
use Rattle.hn_rules.specs.declared.state.State.{State}
use Rattle.hn_world.specs.declared.member.Member.{Member}
use Rattle.hn_table.specs.Data.{IsDataText, AreHeldTexts}
use Rattle.hn_table.specs.Delegated.{AreAllSeenLines, AreAllUnseenLines, used_line}
use Rattle.hn_table.specs.Lines.{table_line, peers_lines, held_line, assigned_line, backoff_line}

-- the router itself, its peers, the nodes that it holds, its assignments and its backoffs
abbrev pub held_lines : List ℕ → Member → List ℕ
held_lines name m =
    table_line name m ++ flat_map peers_lines m.router.ports ++ flat_map held_line m.router.table.entries
    ++ flat_map assigned_line m.router.held.assigned ++ flat_map backoff_line m.router.held.backoffs

-- the delegated prefixes that it knows of, those of the nodes that it sees first, and those that it uses at its moment
pub record AreDelegatedLines (s : State) (text : List ℕ) : Type 0 where
  pub used : List Delegated
  pub are_usable : AreUsable (seen_by s) used
  pub seen : List ℕ
  pub are_seen : AreAllSeenLines (seen_by s) used seen
  pub unseen : List ℕ
  pub are_unseen : AreAllUnseenLines s.reach s.table.entries unseen
  pub text_is : text ≡ seen ++ unseen ++ flat_map used_line used

-- its own node data, and those of the nodes that it holds
pub record AreDataTexts (s : State) (text : List ℕ) : Type 0 where
  pub own : List ℕ
  pub is_own : IsDataText s.id s.own.body own
  pub others : List ℕ
  pub are_others : AreHeldTexts s.table.entries others
  pub text_is : text ≡ own ++ others

-- what the router m of this name holds
pub record IsTableText (name : List ℕ) (m : Member) (text : List ℕ) : Type 0 where
  pub delegated : List ℕ
  pub are_delegated : AreDelegatedLines m.router delegated
  pub nodes : List ℕ
  pub are_nodes : AreDataTexts m.router nodes
  pub text_is : text ≡ held_lines name m ++ delegated ++ nodes
