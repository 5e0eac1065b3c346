-- What C sees of routers and of copies of datagrams.
use Rattle.std.specs.Prelude.{ℕ, Bool, true, false, ◌&&◌, not, List, length, replicate}
use Rattle.std.specs.List.{slice_get}
use Rattle.std.specs.Option.{option_map_or}
use Rattle.hn_base.specs.declared.addr.Addr.{Addr}
use Rattle.hn_look.specs.Steps.{sender_place, sender_endpoint}
use Rattle.hn_world.specs.declared.copies.CopyInfo.{CopyInfo}
use Rattle.hn_world.specs.declared.member.Member.{Member}
use Rattle.hn_world.specs.declared.parts.Parts.{Parts}
use Rattle.hn_lab_c.specs.declared.kinds.MailCopy.{MailCopy}
use Rattle.hn_lab_c.specs.declared.kinds.State.{State}

abbrev pub as_bit : Bool → ℕ
as_bit true = 1
as_bit false = 0

-- a router that is settled or not, and quiet or not; where it is both it is sound
abbrev pub state_out : Member → Bool → Bool → State
state_out m settled quiet = record {
  reach = length m.router.reach;
  id = m.router.id.0;
  number = m.router.number;
  running = as_bit m.running;
  settled = as_bit settled;
  quiet = as_bit quiet;
  sound = as_bit (settled && quiet);
  hash = m.router.net;
}

-- the name of the router that sends from an address, with zeros after it; only zeros where there is none
abbrev pub sender_name : Parts → Addr → List ℕ
sender_name w from = option_map_or (λ m. m.name.bytes) (slice_get w.members (sender_place from)) (replicate 16 0)

-- a copy, by where it goes and from where
abbrev pub copy_out : Parts → CopyInfo → MailCopy
copy_out w info = record {
  sender = sender_name w info.from;
  receiver = info.to.bytes;
  sender_endpoint = sender_endpoint info.from;
  receiver_endpoint = info.endpoint.0;
  unicast = as_bit (not info.multicast);
  waiting = as_bit info.waiting;
}
