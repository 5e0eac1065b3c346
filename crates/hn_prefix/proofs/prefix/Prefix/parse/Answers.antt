use Rattle.hn_base.proofs.Names.{◌≡◌, ℕ, List, sym, subst, arith, PlainPrefix, IsPrefix}
use Rattle.hn_prefix.proofs.Names.{same_number, prefix_text_of, IsPrefixText}
use Rattle.hn_base.proofs.Results.{not_ok, same_ok, ok_with}
use Rattle.hn_prefix.proofs.ReadLemmas.{prefix_parts, no_slash, plain_prefix}
use Rattle.hn_prefix.proofs.WriteLemmas.{prefix_text_is_read}
use Rattle.hn_prefix.proofs.prefix.Prefix.parse.Goals as goal

-- a written form is a read form
read_back : {text : List ℕ} (p : PlainPrefix) → IsPrefix p → text ≡ prefix_text_of p → IsPrefixText text p
read_back p h is = subst (λ t. IsPrefixText t p) (sym is) (prefix_text_is_read p h)

pub returns-in_default-clause-every : goal.returns-in_default-clause-every
returns-in_default-clause-every c = λ p h. absurd (no_slash c.args.text.now p c.in_default.ensures.none h)

pub returns-in_err-bits-clause-every : goal.returns-in_err-bits-clause-every
returns-in_err-bits-clause-every c =
    λ p h.
    let parts = prefix_parts c.args.text.now c.in-Some.address.now c.in-Some.length.now p c.in-Some.ensures.found h in
    absurd (not_ok _ _ (c.in_err-bits.ensures.every p.bits parts.0))

pub returns-in_default-number-clause-every : goal.returns-in_default-number-clause-every
returns-in_default-number-clause-every c =
    λ p h.
    let parts = prefix_parts c.args.text.now c.in-Some.address.now c.in-Some.length.now p c.in-Some.ensures.found h in
    absurd (c.in_default-number.ensures.none p.len parts.1)

pub returns-then-len-gt128-clause-every : goal.returns-then-len-gt128-clause-every
returns-then-len-gt128-clause-every c =
    λ p h.
    let parts = prefix_parts c.args.text.now c.in-Some.address.now c.in-Some.length.now p c.in-Some.ensures.found h in
    let len = same_number 10 3 c.in-Some.length.now c.in-Some-number.len p.len c.in-Some-number.ensures.found parts.1 in
    absurd (omega (arith, h.prefix.len_in_range))

pub returns-clause-every : goal.returns-clause-every
returns-clause-every c =
    λ p h.
    let parts = prefix_parts c.args.text.now c.in-Some.address.now c.in-Some.length.now p c.in-Some.ensures.found h in
    let len = same_number 10 3 c.in-Some.length.now c.in-Some-number.len p.len c.in-Some-number.ensures.found parts.1 in
    let bits = same_ok _ _ (c.in_ok-bits.ensures.every p.bits parts.0) in
    let same = plain_prefix c.in_ok-bits.bits c.in-Some-number.len p bits len in
    let made = ok_with c.new.result _ p (c.new.ensures.accepted.1 (subst IsPrefix (sym same) h.prefix)) c.new.ensures.value same in
    rw made at c.map_err.ensures.cases

pub returns-in_default-clause-written : goal.returns-in_default-clause-written
returns-in_default-clause-written c = λ p h is. returns-in_default-clause-every c p (read_back p h is)

pub returns-in_err-bits-clause-written : goal.returns-in_err-bits-clause-written
returns-in_err-bits-clause-written c = λ p h is. returns-in_err-bits-clause-every c p (read_back p h is)

pub returns-in_default-number-clause-written : goal.returns-in_default-number-clause-written
returns-in_default-number-clause-written c = λ p h is. returns-in_default-number-clause-every c p (read_back p h is)

pub returns-then-len-gt128-clause-written : goal.returns-then-len-gt128-clause-written
returns-then-len-gt128-clause-written c = λ p h is. returns-then-len-gt128-clause-every c p (read_back p h is)

pub returns-clause-written : goal.returns-clause-written
returns-clause-written c = λ p h is. returns-clause-every c p (read_back p h is)
