-- One exchange between two routers, in a play.
use Rattle.std.specs.Prelude.{◌≡◌, ℕ, Option, None, Some}
use Rattle.hn_base.specs.declared.name.Name.{Name}
use Rattle.hn_sync.specs.Exchange.{ExchangeEnds, unless_exchange}
use Rattle.hn_sync.specs.Repairs.{Repairs}
use Rattle.hn_play.specs.declared.end.Stop.TheVariants.{Refused, WireFailed, Cut}
use Rattle.hn_play.specs.Process.{Process, Unless, ThenProcess}
use Rattle.hn_play.specs.Stage.{Stage}

-- An exchange goes on to its end, or to an event that is refused with this code. It takes the next of the words that are to
-- come. Its deliveries are events: no wire is used.
pub record Syncs (a b : Name) (code : Option ℕ) (before after : Stage) : Type 0 where
  pub ends : ExchangeEnds a b code (Some before.words) (Some after.words) before.world after.world
  pub loss : after.loss ≡ before.loss
  pub route : after.route ≡ before.route
  pub senders : after.senders ≡ before.senders
  pub text : after.text ≡ before.text

-- where it goes on to its end, it repairs
abbrev pub Exchanges : Name → Name → Process
Exchanges a b None before after = Syncs a b None before after × Repairs a b before.world after.world
Exchanges a b (Some (Refused code)) before after = Syncs a b (Some code) before after
Exchanges a b (Some WireFailed) before after = ⊥
Exchanges a b (Some (Cut fault)) before after = after ≡ before

-- b asks a for the network state, and all datagrams of this are delivered at one moment, unless it is refused
abbrev pub SyncEnds : Name → Name → Process
SyncEnds a b stop before after = ThenProcess (Unless (unless_exchange a b before.world)) (Exchanges a b) stop before after
