use Rattle.hn_base.proofs.Names.{◌≡◌, ◌+◌, ◌-◌, ◌*◌, ◌%◌, ◌^◌, ap, subst, arith, ◌∙◌, PlainPrefix, IsPrefix}
use Rattle.hn_prefix.proofs.SubPrefixAtPlace.{IsPlace, sub_prefix_is_prefix}
use Rattle.hn_prefix.proofs.prefix.Prefix.sub_prefix.Goals as goal

pub addresses_before-requires-clause-fits : goal.addresses_before-requires-clause-fits
addresses_before-requires-clause-fits c =
    let at : IsPlace c.args.self.now c.args.len c.args.place = record {
      valid = subst IsPrefix c.self.view_is c.self.invariant;
      not_shorter = c.requires.not_shorter;
      len_in_range = c.requires.len_in_range;
      below_count = c.requires.below_count;
    } in
    omega (arith, (sub_prefix_is_prefix c.args.self.now c.args.len c.args.place at).bits_in_range)

pub overflow_add-result : goal.overflow_add-result
overflow_add-result c =
    let at : IsPlace c.args.self.now c.args.len c.args.place = record {
      valid = subst IsPrefix c.self.view_is c.self.invariant;
      not_shorter = c.requires.not_shorter;
      len_in_range = c.requires.len_in_range;
      below_count = c.requires.below_count;
    } in
    let bits : c.self.inside.bits ≡ c.args.self.now.bits = ap (λ (p : PlainPrefix). p.bits) c.self.view_is in
    omega (arith, (sub_prefix_is_prefix c.args.self.now c.args.len c.args.place at).bits_in_range)

pub invariant_of-result : goal.invariant_of-result
invariant_of-result c =
    let at : IsPlace c.args.self.now c.args.len c.args.place = record {
      valid = subst IsPrefix c.self.view_is c.self.invariant;
      not_shorter = c.requires.not_shorter;
      len_in_range = c.requires.len_in_range;
      below_count = c.requires.below_count;
    } in
    let sub = sub_prefix_is_prefix c.args.self.now c.args.len c.args.place at in
    let bits : c.self.inside.bits ≡ c.args.self.now.bits = ap (λ (p : PlainPrefix). p.bits) c.self.view_is in
    let same : c.self.inside.bits + c.addresses_before.result ≡ c.args.self.now.bits + c.args.place * 2 ^ (128 - c.args.len) = omega arith in
    record {
      len_in_range = sub.len_in_range;
      bits_in_range = omega (arith, sub.bits_in_range);
      no_bit_past_len = ap (λ b. b % 2 ^ (128 - c.args.len)) same ∙ sub.no_bit_past_len;
    }
