-- A router's own delegated prefixes come and go (RFC 7788, sections 6.2 and 10.2).
use Rattle.std.specs.Prelude.{ℕ}
use Rattle.hn_base.specs.Prefix.{PlainPrefix}
use Rattle.hn_rules.specs.declared.running.Running.{Running}
use Rattle.hn_own.specs.OwnPrefixes.{own_prefix, delegated_with, delegated_without, delegated_after}

-- a delegated prefix is added, or replaces the same one; its lifetimes in seconds begin now
abbrev pub delegating : PlainPrefix → ℕ → ℕ → Running → Running
delegating prefix valid preferred r =
    record r { state = record r.state { delegated = delegated_with (own_prefix r.state.moment prefix valid preferred) r.state.delegated } }

-- a delegated prefix is withdrawn; nothing changes if it is not there
abbrev pub withdrawing : PlainPrefix → Running → Running
withdrawing prefix r = record r { state = record r.state { delegated = delegated_without prefix r.state.delegated } }

-- the delegated prefixes go whose valid lifetime has ended
abbrev pub ending : Running → Running
ending r = record r { state = record r.state { delegated = delegated_after r.state.moment r.state.delegated } }
