-- What follows an event that is a line of a script.
use Rattle.std.specs.Prelude.{◌≡◌, None}
use Rattle.hn_world.specs.declared.event.WEvent.{WEvent}
use Rattle.hn_play.specs.Stage.{Stage}
use Rattle.hn_play.specs.Process.{Process, Nothing}
use Rattle.hn_play.specs.Sending.{Turns, ended_sending, ending_all}
use Rattle.hn_world.specs.declared.event.WEvent.TheVariants as event

-- something else than the world is set
abbrev pub Sets : (Stage → Stage) → Process
Sets change stop before after = (stop ≡ None) × (after ≡ change before)

-- what follows an event that is a line: after a tick of a router its Router Advertisements, and no sender outlives a detach
-- of its endpoint, or a stop or a start of its router
abbrev pub Follows : WEvent → Process
Follows (event.Tick name) stop before after = Turns name stop before after
Follows (event.Detach name e) stop before after = Sets (ended_sending name e) stop before after
Follows (event.Stop name) stop before after = Sets (ending_all name) stop before after
Follows (event.Start name) stop before after = Sets (ending_all name) stop before after
Follows _ stop before after = Nothing stop before after
