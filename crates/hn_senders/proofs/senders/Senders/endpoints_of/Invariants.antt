use Rattle.hn_senders.proofs.senders.Senders.endpoints_of.Given as goal
use Rattle.hn_senders.specs.Senders.{is_sender_of}
use Rattle.std.specs.Prelude.{◌≡◌, map, filter, take}

-- those of the router so far
abbrev pub invariant-loop-sending : goal.invariant-loop-sending
invariant-loop-sending l = l.endpoints.items ≡ map (λ s. s.endpoint) (filter (is_sender_of l.name) (take l.sending-index l.sending-items))
