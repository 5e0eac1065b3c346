use Rattle.hn_base.proofs.Names.{arith}
use Rattle.hn_advert.proofs.Fields.{header_begins}
use Rattle.hn_advert.proofs.header.split_header.Goals as goal

pub returns-clause-header : goal.returns-clause-header
returns-clause-header c =
    let flags = c.flags_of-managed.result in
    let cases = c.in-Some.ensures.cases in
    rw c.from_be_bytes.ensures (header_begins c.args.bytes.now c.in-Some.header.now c.in-Some.options.now flags.0 flags.1
    (λ i. omega (arith, c.type_inv.bytes i)) (omega arith) c.if-header.false c.if-header-ne0.false cases.0 cases.1 c.flags_of-managed.ensures)
