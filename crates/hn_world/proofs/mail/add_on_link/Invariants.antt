use Rattle.hn_base.proofs.Names.{◌≡◌, ◌++◌, true, filter, map, take, All}
use Rattle.hn_world.proofs.Names.{copy_for, gets, is_on}
use Rattle.hn_world.proofs.mail.add_on_link.Given as goal

abbrev pub invariant-loop-port : goal.invariant-loop-port
invariant-loop-port l = record {
  are : l.copies.items ≡ l.fn.copies.items
      ++ map (copy_for l.sender l.to l.bytes)
      (filter (gets l.sender l.to) (map (λ e. record { place = l.place; endpoint = e }) (filter (is_on l.link l.member) (map (λ p. p.id) (take l.port-index l.port-items)))));
  waiting : All (λ c. c.waiting ≡ true) l.copies.items;
}
