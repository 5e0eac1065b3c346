-- When an endpoint asks for the network state (RFC 7787, section 4.4).
use Rattle.std.specs.Prelude.{ℕ, ◌-◌, Bool, true, nat_le, if◌then◌else◌, Option, Some, None}
use Rattle.hn_dncp.specs.declared.port.Port.{Port}

-- whether it may ask: it has not asked yet, or not for 200 ms
abbrev pub may_ask : ℕ → Option ℕ → Bool
may_ask now None = true
may_ask now (Some last) = nat_le 200 (now - last)

-- when it last asked, after it would ask
abbrev pub asked_at : ℕ → Option ℕ → Option ℕ
asked_at now last = if may_ask now last then Some now else last

-- the endpoint, after it would ask
abbrev pub asked : ℕ → Port → Port
asked now port = record port { asked = asked_at now port.asked }
