-- Where a play has come to.
use Rattle.std.specs.Prelude.{ℕ, List, ◌++◌, Option, None, Some, []}
use Rattle.std.specs.Option.{option_map_or}
use Rattle.hn_io.specs.Pcg.{pcg_word}
use Rattle.hn_wire.specs.declared.datagram.Datagram.{Datagram}
use Rattle.hn_world.specs.declared.parts.Parts.{Parts}
use Rattle.hn_play.specs.declared.stream.Stream.{Stream}
use Rattle.hn_play.specs.declared.playing.Playing.{Playing}
use Rattle.hn_senders.specs.declared.senders.Sending.{Sending}
use Rattle.hn_play.specs.Told.{Told, told}
use Rattle.hn_base.specs.declared.version.Version.{Version}
use Rattle.hn_world.specs.Replay.{empty_world}

-- How copies go: by mail in memory; or over a wire, from a base to the port after it, with the datagrams that wait on
-- the wire, where it tells them.
pub data Route : Type 0 where
  Mail : Route
  OverWire : (base : ℕ) (waiting : Option (List Datagram)) → Route

-- its world, of a hundred copies how many `flow` loses, the random words that are to come, from place 0, how copies go,
-- those that send Router Advertisements, and the text so far
pub record Stage : Type 0 where
  pub world : Parts
  pub loss : ℕ
  pub words : ℕ → ℕ
  pub route : Route
  pub senders : List Sending
  pub text : List Told

-- lines come up, one after another
abbrev pub telling : List (List ℕ) → Stage → Stage
telling lines p = record p { text = p.text ++ told p.world lines }

-- the words to come: zeros, or those of a generator
abbrev pub stream_words : Stream → ℕ → ℕ
stream_words s = option_map_or pcg_word s.seeded (λ _. 0)

-- the route from a base, if there is one, over a wire on which these datagrams wait
abbrev pub route_of : Option ℕ → Option (List Datagram) → Route
route_of None waiting = Mail
route_of (Some base) waiting = OverWire base waiting

-- a play over such a route, with this text so far
abbrev pub stage_of : Playing → Route → List Told → Stage
stage_of p route text = record {
  world = p.world.parts;
  loss = p.loss;
  words = stream_words p.words;
  route = route;
  senders = p.senders;
  text = text;
}

-- Where the play of a script of a version begins, over a route: nothing has happened, no copy is lost, each word is 0, no
-- endpoint sends Router Advertisements, and there is no text.
abbrev pub begun : Route → Version → Stage
begun route version = record { world = empty_world version; loss = 0; words = λ _. 0; route = route; senders = []; text = [] }
