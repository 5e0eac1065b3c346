use Rattle.hn_base.proofs.Names.{not, rules, tests, filter_same}
use Rattle.hn_own.proofs.Names.{OwnPrefix, is_prefix}
use Rattle.hn_own.proofs.own_prefixes.leave.Goals as goal

pub returns : goal.returns
returns c = record {
  list = filter_same _ (λ (p : OwnPrefix). not (is_prefix c.args.prefix p)) _ (λ (p : OwnPrefix) b f k. search (rules, tests)) _ _ c.retain.ensures.filtered;
  len = c.retain.ensures.bound;
  room = c.retain.ensures.capacity;
}
