use Rattle.hn_base.proofs.Names.{◌≡◌, ◌++◌, map}
use Rattle.hn_rules.proofs.running.Running.send.Given as goal

abbrev pub invariant-loop-bytes : goal.invariant-loop-bytes
invariant-loop-bytes l = record {
  sent : l.self ≡ record l.fn.self { done = record l.fn.self.done { sends = l.fn.self.done.sends ++ map (λ bytes. record { endpoint = l.endpoint; to = l.to; bytes = bytes }) l.yielded } };
  left : l.fn.datagrams ≡ l.yielded ++ l.bytes-iterator.rest.items;
}
