use Rattle.hn_base.proofs.Names.{arith}
use Rattle.hn_advert.proofs.Fields.{prefix_begins}
use Rattle.hn_advert.proofs.options.split_prefix.Goals as goal

pub returns-clause-option : goal.returns-clause-option
returns-clause-option c =
    let cases = c.in-Some.ensures.cases in
    rw (c.containing.ensures.value, c.from_be_bytes-2.ensures, c.from_be_bytes-3.ensures)
    (prefix_begins c.args.bytes.now c.split_at.result.0.now c.split_at.result.1.now c.in-Some.address.now c.in-Some.rest.now c.from_be_bytes.result
    (λ i. omega (arith, c.type_inv.bytes i)) (omega arith) c.requires.option.of_kind c.requires.size c.split_at.ensures.front c.split_at.ensures.back cases.0 cases.1 c.from_be_bytes.ensures
    (omega arith))
