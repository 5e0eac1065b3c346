use Rattle.hn_base.proofs.Names.{◌≡◌, ◌+◌, ◌%◌, ◌^◌, ◌≤◌, ℕ, length, true, sym, ◌∙◌, ap, arith, below_more}
use Rattle.hn_rules.proofs.Names.{is_taken}
use Rattle.hn_store.specs.declared.table.Table.{Table}
use Rattle.hn_rules.proofs.FreeIds.{free-after}
use Rattle.hn_rules.proofs.state.State.first_free.Goals as goal

pub returns : goal.returns
returns c =
    let table = c.args.self.now.table in
    let n = c.loop-taken._taken in
    let kept : length c.get-table.result.now.entries ≤ c.get-table.result.now.limit = c.entries-kept.ensures.valid.within in
    let limit = c.entries-kept.ensures.valid.limit_is in
    let enough : n ≡ length c.get-table.result.now.entries + 2 = omega arith in
    let known = ap (λ (t : Table). length t.entries) c.get-table.ensures in
    record {
      steps = n;
      is_it = c.loop-taken.invariant.0;
      free = rw c.loop-taken.invariant.0 (free-after c.args.self.now.id.0 table.entries c.args.word n (omega arith) (omega arith) c.loop-taken.invariant.1);
      taken_before = c.loop-taken.invariant.1;
    }

pub returns-then-not-is_taken : goal.returns-then-not-is_taken
returns-then-not-is_taken c = record {
  steps = c.loop-taken._taken;
  is_it = c.loop-taken.invariant.0;
  free = sym c.is_taken.ensures ∙ c.if-not-is_taken.true;
  taken_before = c.loop-taken.invariant.1;
}

pub loop-taken-init : goal.loop-taken-init
loop-taken-init c = (omega arith, λ j less. absurd (omega arith))

pub loop-taken-preserved : goal.loop-taken-preserved
loop-taken-preserved c =
    let s = c.args.self.now in
    let word = c.args.word in
    let here : is_taken ((word + c.loop-taken._taken) % 2 ^ 32) s ≡ true = rw c.loop-taken.invariant.0 at (sym c.is_taken.ensures ∙ c.if-not-is_taken.false) in (
      omega (arith, c.loop-taken.invariant.0),
      below_more (λ (j : ℕ). is_taken ((word + j) % 2 ^ 32) s ≡ true) c.loop-taken._taken c.loop-taken.invariant.1 here,
    )
