use Rattle.hn_base.proofs.Names.{◌≡◌, take, AllDigits, digits_value}
use Rattle.hn_base.proofs.numeral.number.Given as goal

abbrev pub invariant-loop-byte : goal.invariant-loop-byte
invariant-loop-byte l = record {
  digits : AllDigits l.radix (take l.byte-index l.text);
  value : l.value ≡ digits_value l.radix (take l.byte-index l.text);
}
