-- What a datagram is that a router sends.
use Rattle.std.specs.Prelude.{◌≤◌, length, All}
use Rattle.hn_base.specs.Byte.{IsByte}
use Rattle.hn_rules.specs.declared.done.Outgoing.{Outgoing}
use Rattle.hn_rules.specs.Lengths.{most_datagram}

-- it has at most 65,507 bytes
abbrev pub IsShortSend : Outgoing → Type 0
IsShortSend send = length send.bytes ≤ most_datagram

-- it is a list of bytes
abbrev pub IsSendOfBytes : Outgoing → Type 0
IsSendOfBytes send = All IsByte send.bytes
