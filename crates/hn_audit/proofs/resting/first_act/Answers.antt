use Rattle.hn_base.proofs.Names.{Option, inl}
use Rattle.hn_audit.proofs.Names.{Unquiet, IsFirstFound, FindsNotAtRest, FindsUnasked}
use Rattle.hn_audit.proofs.Searching.{or_else}
use Rattle.hn_audit.proofs.resting.first_act.Goals as goal

pub returns-in-Some : goal.returns-in-Some
returns-in-Some c = inl c.in-Some.ensures

pub returns : goal.returns
returns c =
    let s = c.args.s.now in
    let unasked : Option Unquiet → Type 0 = IsFirstFound (FindsUnasked s.name c.args.wishes.now) s.router.held.assigned in
    let not_at_rest : Option Unquiet → Type 0 = IsFirstFound (FindsNotAtRest s.name c.args.known.now s.router.id.0 s.router.held.assigned) c.args.wishes.now in
    or_else unasked not_at_rest c.in_default.ensures c.first_not_at_rest.result c.first_not_at_rest.ensures
