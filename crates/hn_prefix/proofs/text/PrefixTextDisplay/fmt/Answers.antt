use Rattle.hn_base.proofs.Names.{List, ℕ, subst, HasWritten}
use Rattle.hn_prefix.proofs.WriteLemmas.{address_printed, prefix_printed}
use Rattle.hn_prefix.proofs.text.PrefixTextDisplay.fmt.Goals as goal

pub returns-in-Some-clause-writes : goal.returns-in-Some-clause-writes
returns-in-Some-clause-writes g c = λ plain ok.
    let Written : List ℕ → Type 0 = λ t. HasWritten g.W.Write.write_str_gives c.args.f.now t c.write.new.self in
    let printed = prefix_printed c.hex_groups-address.result c.from_bits.result c.self.inside.address c.self.inside.len c.in-Some.len c.args.self.now
    c.hex_groups-address.ensures c.from_bits.ensures c.in-Some.is c.self.view_is in
    subst Written printed (c.write.ensures.writes plain ok)

pub returns-in-None-clause-writes : goal.returns-in-None-clause-writes
returns-in-None-clause-writes g c = λ plain ok.
    let Written : List ℕ → Type 0 = λ t. HasWritten g.W.Write.write_str_gives c.args.f.now t c.write-in-None.new.self in
    let printed = address_printed c.hex_groups-address.result c.from_bits.result c.self.inside.address c.self.inside.len c.args.self.now
    c.hex_groups-address.ensures c.from_bits.ensures c.in-None.is c.self.view_is in
    subst Written printed (c.write-in-None.ensures.writes plain ok)
