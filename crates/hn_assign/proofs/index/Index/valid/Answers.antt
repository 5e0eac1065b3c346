use Rattle.hn_base.proofs.Names.{◌≡◌, ◌≤◌, ◌∙◌, ap, sym, arith}
use Rattle.hn_assign.proofs.Names.{short_of}
use Rattle.hn_assign.proofs.Indexes.{IsStarting, valid_of_parts, valid_of_part, valid_of_short}
use Rattle.hn_assign.proofs.index.Index.valid.Goals as goal

pub returns-then-valid : goal.returns-then-valid
returns-then-valid c =
    let adv = c.args.self.now in
    let own = c.args.own.0 in
    let common = c.args.common.now in
    let short = c.deref-2.result.now in
    let part = c.starting_in.result.now in
    let starting : IsStarting adv c.args.c.now.prefix part = record { of_all = c.starting_in.ensures.part; starting = c.starting_in.ensures.all } in
    let is_short : short ≡ short_of adv = c.deref-2.ensures.value ∙ c.self.invariant.short_ones ∙ ap short_of c.self.view_is in
    let len : c.args.c.now.prefix.len ≤ 64 = omega arith in (
      λ among. valid_of_parts adv short part own common c.args.c.now is_short starting len (c.valid-2.ensures.0 c.if-valid.true) (c.valid-then-valid.ensures.0 among),
      λ valid. c.valid-then-valid.ensures.1 (valid_of_part adv short part own common c.args.c.now is_short starting valid),
    )

pub returns-else-valid : goal.returns-else-valid
returns-else-valid c =
    let adv = c.args.self.now in
    let short = c.deref-2.result.now in
    let is_short : short ≡ short_of adv = c.deref-2.ensures.value ∙ c.self.invariant.short_ones ∙ ap short_of c.self.view_is in (
      λ yes. absurd (let clash = sym c.if-valid.false ∙ yes in cc),
      λ valid. c.valid-2.ensures.1 (valid_of_short adv short c.args.own.0 c.args.common.now c.args.c.now is_short valid),
    )
