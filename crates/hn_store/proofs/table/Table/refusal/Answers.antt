use Rattle.hn_base.proofs.Names.{refl, subst, rules, arith}
use Rattle.hn_store.proofs.Names.{Option, Part, Stale, Full, TooLong, plain_state, known_of, IsStale, HasNoRoom}
use Rattle.hn_store.proofs.Answering.{stale, full, too_long, unchanged}
use Rattle.hn_store.proofs.table.Table.refusal.Goals as goal

pub returns-then-is_stale-clause-accepts : goal.returns-then-is_stale-clause-accepts
returns-then-is_stale-clause-accepts c now =
    let s = plain_state c.args.state.now in
    let is : IsStale (known_of c.args.self.now.entries c.args.own.now s.node) s = subst (λ (known : Option Part). IsStale known s) c.known_of-known.ensures (c.is_stale.ensures.0 c.if-is_stale.true) in
    unchanged c.args.self.now c.args.own.now s now Stale refl (stale c.args.self.now c.args.own.now s is)

pub returns-then-is_stale-clause-refused : goal.returns-then-is_stale-clause-refused
returns-then-is_stale-clause-refused c _ passed =
    let s = plain_state c.args.state.now in
    passed.fresh (subst (λ (known : Option Part). IsStale known s) c.known_of-known.ensures (c.is_stale.ensures.0 c.if-is_stale.true))

pub returns-then-is_full-clause-accepts : goal.returns-then-is_full-clause-accepts
returns-then-is_full-clause-accepts c now =
    let s = plain_state c.args.state.now in
    let is : HasNoRoom c.args.self.now (known_of c.args.self.now.entries c.args.own.now s.node) =
    subst (λ (known : Option Part). HasNoRoom c.args.self.now known) c.known_of-known.ensures (c.is_full.ensures.0 c.if-is_full.true) in
    unchanged c.args.self.now c.args.own.now s now Full refl (full c.args.self.now c.args.own.now s (search rules) is)

pub returns-then-is_full-clause-refused : goal.returns-then-is_full-clause-refused
returns-then-is_full-clause-refused c _ passed =
    passed.room (subst (λ (known : Option Part). HasNoRoom c.args.self.now known) c.known_of-known.ensures (c.is_full.ensures.0 c.if-is_full.true))

pub returns-then-state-gt-BODY_LIMIT-clause-accepts :
    goal.returns-then-state-gt-BODY_LIMIT-clause-accepts
returns-then-state-gt-BODY_LIMIT-clause-accepts c now =
    let s = plain_state c.args.state.now in
    unchanged c.args.self.now c.args.own.now s now TooLong refl (too_long c.args.self.now c.args.own.now s (search rules) (search rules) c.if-state-gt-BODY_LIMIT.true)

pub returns-then-state-gt-BODY_LIMIT-clause-refused :
    goal.returns-then-state-gt-BODY_LIMIT-clause-refused
returns-then-state-gt-BODY_LIMIT-clause-refused c _ passed = let short = passed.short in let long = c.if-state-gt-BODY_LIMIT.true in omega (arith, short, long)
