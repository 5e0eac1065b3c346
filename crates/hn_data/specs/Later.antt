-- The same network at different moments.
use Rattle.std.specs.Prelude.{◌≡◌, ℕ, ◌+◌, map}
use Rattle.hn_data.specs.View.{PlainView}
use Rattle.hn_data.specs.declared.view.Entry.{Entry}

-- a node when a time has passed
abbrev pub aged_entry : ℕ → Entry → Entry
aged_entry time node = record node { age = node.age + time }

-- the second view is the first when a time has passed: the same own node and the same nodes, each older by that time
pub record IsLater (before after : PlainView) : Type 0 where
  pub time : ℕ
  pub own : after.own ≡ before.own
  pub now : after.now ≡ before.now + time
  pub nodes : after.nodes ≡ map (aged_entry time) before.nodes
