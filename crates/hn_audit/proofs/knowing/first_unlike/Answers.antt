use Rattle.hn_base.proofs.Names.{Option, inl, inr, IfOk-weaker}
use Rattle.hn_audit.proofs.Names.{Unsettled, IsFirstFound, OrElse, FindsHeld, FindsReach, FindsUsed, members_of}
use Rattle.hn_audit.proofs.Searching.{or_else}
use Rattle.hn_audit.proofs.knowing.first_unlike.Goals as goal

pub returns-in-Some : goal.returns-in-Some
returns-in-Some c = inl c.in-Some.ensures

pub returns-in-Some-first_not_holding : goal.returns-in-Some-first_not_holding
returns-in-Some-first_not_holding c = inr (c.in_default.ensures, inl c.in-Some-first_not_holding.ensures)

pub returns : goal.returns
returns c =
    let set = members_of c.args.set.now in
    let reach : Option Unsettled → Type 0 = IsFirstFound (FindsReach c.args.reach.now) set in
    let held : Option Unsettled → Type 0 = IsFirstFound (λ s. IsFirstFound (FindsHeld s) set) set in
    let used : Option Unsettled → Type 0 = IsFirstFound (λ s. IsFirstFound (FindsUsed s) set) set in
    IfOk-weaker c.first_using_others.result used (OrElse reach (OrElse held used))
    (λ found last. or_else reach (OrElse held used) c.in_default.ensures found (or_else held used c.in_default-first_not_holding.ensures found last))
    c.first_using_others.ensures
