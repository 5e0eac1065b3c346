-- An endpoint (RFC 7787, section 2).
use Rattle.std.specs.Prelude.{ℕ, [], None}
use Rattle.hn_base.specs.declared.ids.EpId.{EpId}
use Rattle.hn_timers.specs.Interval.{interval_from}
use Rattle.hn_dncp.specs.declared.port.Port.{Port}

-- an endpoint that is attached at that moment, with the first word of its Trickle timer
abbrev pub attached_port : EpId → ℕ → ℕ → Port
attached_port id now word = record { id = id; trickle = interval_from now 200 word; sent = now; asked = None; peers = [] }
