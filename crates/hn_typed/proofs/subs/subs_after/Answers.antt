use Rattle.hn_base.proofs.Names.{◌≡◌, ◌++◌, replicate, take, drop, inr, ap, sym, ◌∙◌, arith, common_steps}
use Rattle.hn_typed.proofs.Names.{padding, HasTlvs}
use Rattle.hn_base.proofs.Zeros.{begins_with_zeros}
use Rattle.hn_typed.proofs.FirstCauses.{no_subs}
use Rattle.hn_typed.proofs.subs.subs_after.Goals as goal

pub returns-then-is_ok-clause-found : goal.returns-then-is_ok-clause-found
returns-then-is_ok-clause-found c =
    let after = c.args.after.now in
    let pad = c.split_at.result.0.now in
    let subs = c.split_at.result.1.now in
    let count : c.padding-zeros.result ≡ padding c.args.len = c.padding-zeros.ensures in
    let pad-is : pad ≡ take (padding c.args.len) after = c.split_at.ensures.front ∙ ap (λ n. take n after) count in
    let subs-is : subs ≡ drop (padding c.args.len) after = c.split_at.ensures.back ∙ ap (λ n. drop n after) count in
    let whole : after ≡ replicate (padding c.args.len) 0 ++ subs =
    begins_with_zeros after pad subs (padding c.args.len) pad-is subs-is (c.split_at.ensures.front_len ∙ count) (c.are_zeros.ensures.0 c.if-are_zeros.true) in
    let list : HasTlvs subs = c.check.ensures.accepts.0 (sym c.is_ok.ensures.value ∙ c.if-is_ok.true) in
    (list, inr whole)

pub returns-then-after-zeros-clause-fault : goal.returns-then-after-zeros-clause-fault
returns-then-after-zeros-clause-fault c = λ subs. no_subs c.args.len c.args.after.now subs (grind (arith, common_steps))

pub returns-else-are_zeros-clause-fault : goal.returns-else-are_zeros-clause-fault
returns-else-are_zeros-clause-fault c = λ subs. no_subs c.args.len c.args.after.now subs (grind (arith, common_steps))
