use Rattle.hn_base.proofs.Names.{arith, err_from_is_err_and}
use Rattle.hn_forms.proofs.Captures.{none_read, few_fed, read_more, first_fault}
use Rattle.hn_forms.proofs.capture.read_capture.Goals as goal

pub loop-text-init : goal.loop-text-init
loop-text-init c =
    let new = c.new-watch.ensures in
    none_read c.args.bytes.now c.new-watch.result new.fed new.malformed new.holds

pub feed_line-requires : goal.feed_line-requires
feed_line-requires c =
    let few = few_fed c.args.bytes.now c.loop-text.rest.now c.loop-text.line c.loop-text.watch c.loop-text.invariant in
    omega (arith, c.requires)

pub loop-text-preserved : goal.loop-text-preserved
loop-text-preserved c =
    let fed = c.in_ok-feed_line.ensures.fed in
    read_more c.lists_show.ensures c.held_after_malformed.ensures c.args.bytes.now c.loop-text.rest.now c.in-Some.others.now c.in-Some.text.now fed.0
    c.loop-text.line c.loop-text.watch c.feed_line.new.watch
    c.loop-text.invariant c.in-Some.ensures.found c.in-Some.ensures.shorter fed.1 fed.2

pub returns-in_err-feed_line-clause-refused : goal.returns-in_err-feed_line-clause-refused
returns-in_err-feed_line-clause-refused c = λ fault is.
    let passed = err_from_is_err_and c.from_residual.result c.from_residual.ensures.1 in
    let why = c.in_err-feed_line.ensures.refused fault (cc (passed.1, passed.2, is)) in
    first_fault c.args.bytes.now c.loop-text.rest.now c.in-Some.others.now c.in-Some.text.now c.loop-text.line c.loop-text.watch fault c.loop-text.invariant c.in-Some.ensures.found why.0 why.1
