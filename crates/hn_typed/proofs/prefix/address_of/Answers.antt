use Rattle.hn_base.proofs.Names.{◌-◌, length, ap, sym, ◌∙◌, w128, from_be_bytes}
use Rattle.hn_base.proofs.BigEndian.{from_be_bytes-padded}
use Rattle.hn_typed.proofs.prefix.address_of.Goals as goal

pub returns : goal.returns
returns c = c.from_be_bytes.ensures ∙ ap (from_be_bytes w128) c.filled_up.ensures ∙ sym (from_be_bytes-padded c.args.front.now (16 - length c.args.front.now))
