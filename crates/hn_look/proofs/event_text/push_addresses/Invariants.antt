use Rattle.hn_base.proofs.Names.{◌≡◌, ◌++◌, take, string_bytes, codes, flat_map, name_text}
use Rattle.hn_look.specs.Events.{address_words}
use Rattle.hn_look.proofs.event_text.push_addresses.Given as goal

-- the addresses so far were added
abbrev pub invariant-loop-own : goal.invariant-loop-own
invariant-loop-own l = string_bytes l.text ≡ (string_bytes l.fn.text ++ (codes "addresses " ++ name_text l.name)) ++ flat_map address_words (take l.own-index l.list)
