use Rattle.hn_base.proofs.Names.{◌≡◌, List, ltb, false, subst, rules, tests, IsPartitionPoint-from_clause}
use Rattle.hn_own.proofs.Names.{Port, ArePorts, is_attached}
use Rattle.hn_own.proofs.PortLists.{IsPlaceFor, place_for, ArePorts-partitioned, ArePorts-insert, attached-insert}
use Rattle.hn_own.proofs.ports.Ports.insert.Goals as goal

place : (c : goal.In_ok-insert) → IsPlaceFor c.args.port.id c.self.inside.items.items c.partition_point-place.result
place c =
    let at = c.args.port.id in
    let i = c.partition_point-place.result in
    let ports = c.deref.result.now in
    let are : ArePorts ports = rw c.deref.ensures.value c.self.invariant in
    let unknown : is_attached at ports ≡ false = rw (c.deref.ensures.value, c.self.view_is) c.requires.unknown in
    let parts = IsPartitionPoint-from_clause (λ (p : Port). ltb p.id.0 at.0) ports i c.partition_point-place.ensures.partitioned
    (ArePorts-partitioned at ports are) (λ a r f k. search (rules, tests)) in
    subst (λ (xs : List Port). IsPlaceFor at xs i) c.deref.ensures.value (place_for at ports i unknown c.partition_point-place.ensures.bound parts)

pub invariant_of-self-2 : goal.invariant_of-self-2
invariant_of-self-2 c =
    rw c.in_ok-insert.ensures.items (ArePorts-insert c.self.inside.items.items c.partition_point-place.result c.args.port c.self.invariant (place c)
    (c.requires.numbered, c.number_fits.ensures) (rw c.self.view_is c.requires.room))

pub returns-clause-ok : goal.returns-clause-ok
returns-clause-ok c = rw (c.in_ok-insert.ensures.items, ← c.self.view_is) (attached-insert c.args.port c.self.inside.items.items c.partition_point-place.result (place c))
