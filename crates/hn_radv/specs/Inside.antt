-- A sender as contracts see it.
use Rattle.hn_radv.specs.Sender.{PlainSender}
use Rattle.hn_radv.specs.declared.sender.Sender.TheInside.{Inside}

abbrev pub plain_sender : Inside → PlainSender
plain_sender s = record { count = s.count; last = s.last; next = s.next }
