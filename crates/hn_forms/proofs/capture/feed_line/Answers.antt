use Rattle.hn_base.proofs.Names.{ℕ, List, Option, Err, IfSome, inl, inr, sym, ap, subst, arith}
use Rattle.hn_script.specs.Field.{IsHexWord}
use Rattle.hn_forms.proofs.capture.feed_line.Goals as goal

pub returns-in-Ok-clause-fed : goal.returns-in-Ok-clause-fed
returns-in-Ok-clause-fed c =
    let text = c.args.text.now in
    let fits = c.if-text-gt-MOST_DIGITS.false in
    let hex = subst (λ (o : Option (List ℕ)). IfSome o (λ bytes. IsHexWord bytes text)) c.in-Some.is c.in_ok-datagram.ensures.found in
    let line = subst (λ (bytes : List ℕ). IsHexWord bytes text) (sym c.as_slice.ensures) hex in
    let fed = c.in-Ok.ensures in
    (c.as_slice.result.now, record { short = omega arith; hex = line }, inl (record { list = fed.listed; holds = fed.shown; fed = fed.fed.0; malformed = fed.fed.1 }))

pub returns-in-Err-Malformed-clause-fed : goal.returns-in-Err-Malformed-clause-fed
returns-in-Err-Malformed-clause-fed c =
    let text = c.args.text.now in
    let fits = c.if-text-gt-MOST_DIGITS.false in
    let hex = subst (λ (o : Option (List ℕ)). IfSome o (λ bytes. IsHexWord bytes text)) c.in-Some.is c.in_ok-datagram.ensures.found in
    let line = subst (λ (bytes : List ℕ). IsHexWord bytes text) (sym c.as_slice.ensures) hex in
    let found = c.in-Err-Malformed.field-0-0 in
    let fault = (c.in-Err-Malformed.ensures.refused found.place found.why).0 (ap Err c.in-Err-Malformed.field-0-is) in
    let counted = c.in-Err-Malformed.ensures.counted found (ap Err c.in-Err-Malformed.field-0-is) in
    (c.as_slice.result.now, record { short = omega arith; hex = line }, inr (c.first_fault_is_unique.ensures.no_list c.as_slice.result.now found.place found.why fault, counted))
