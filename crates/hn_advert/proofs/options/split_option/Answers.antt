use Rattle.hn_base.proofs.Names.{◌*◌, arith, take_rest}
use Rattle.hn_advert.proofs.Fields.{other_begins}
use Rattle.hn_advert.proofs.options.split_option.Goals as goal

pub returns-then-kind-ne-PREFIX_INFORMATION-clause-option : goal.returns-then-kind-ne-PREFIX_INFORMATION-clause-option
returns-then-kind-ne-PREFIX_INFORMATION-clause-option c =
    rw (take_rest c.args.bytes.now (c.from-size.result * 8))
    (other_begins c.args.bytes.now (c.from-size.result * 8) (omega arith) c.if-kind-ne-PREFIX_INFORMATION.true (omega arith) (omega arith) (omega (arith, c.from-size.ensures)))
