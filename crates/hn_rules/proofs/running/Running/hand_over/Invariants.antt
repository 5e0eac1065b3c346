use Rattle.hn_base.proofs.Names.{◌≡◌, ◌≤◌, ◌+◌, ◌++◌, [], map, length}
use Rattle.std.specs.Prelude.{vec_len, vec_capacity}
use Rattle.hn_rules.proofs.running.Running.hand_over.Given as goal

abbrev pub invariant-loop-answer : goal.invariant-loop-answer
invariant-loop-answer l = record {
  so_far : l.tlvs.items ≡ l.fn.tlvs.items ++ map (λ a. a.tlv) l.yielded;
  left : l.fn.self.answers ≡ l.yielded ++ l.answer-iterator.rest.items;
  room : vec_len l.tlvs + length l.answer-iterator.rest.items ≤ vec_capacity l.tlvs;
  emptied : l.self ≡ record l.fn.self { answers = [] };
}
