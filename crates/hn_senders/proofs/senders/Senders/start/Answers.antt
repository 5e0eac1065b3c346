use Rattle.hn_base.proofs.Names.{◌≤◌, ◌∙◌, ap, List, leb, None, length, rules, tests, subst, IsPartitionPoint-from_clause}
use Rattle.hn_senders.proofs.Sendings.{IsPlaceFor, order-partitioned, order-insert, placed-insert}
use Rattle.hn_radv.specs.Sender.{PlainSender}
use Rattle.hn_senders.specs.Senders.{AreInOrder, placed, without_sender}
use Rattle.hn_senders.specs.declared.senders.Sending.{Sending}
use Rattle.hn_senders.proofs.senders.Senders.start.Goals as goal

place : (c : goal.In_ok-insert) → IsPlaceFor (record { name = c.args.name; endpoint = c.args.endpoint; sender = c.start.result; shape = None }) c.self.inside.items.items c.partition_point-place.result
place c =
    let at = c.args.endpoint.0 in
    let senders = c.deref.result.now in
    let are : AreInOrder senders = rw c.deref.ensures.value c.self.invariant in
    let parts = IsPartitionPoint-from_clause (λ (s : Sending). leb s.endpoint.0 at) senders c.partition_point-place.result c.partition_point-place.ensures.partitioned
    (order-partitioned at senders are) (λ a r f k. search (rules, tests)) in
    subst (λ (xs : List Sending). IsPlaceFor (record { name = c.args.name; endpoint = c.args.endpoint; sender = c.start.result; shape = None }) xs c.partition_point-place.result)
    c.deref.ensures.value parts

within : (c : goal.In_ok-insert) → c.partition_point-place.result ≤ length c.self.inside.items.items
within c = rw (← c.deref.ensures.value) c.partition_point-place.ensures.bound

pub invariant_of-self-2 : goal.invariant_of-self-2
invariant_of-self-2 c =
    rw c.in_ok-insert.ensures.items (order-insert (record { name = c.args.name; endpoint = c.args.endpoint; sender = c.start.result; shape = None })
    c.self.inside.items.items c.partition_point-place.result c.self.invariant (within c) (place c))

pub returns : goal.returns
returns c =
    let items = c.self.inside.items.items in
    let s : Sending = record { name = c.args.name; endpoint = c.args.endpoint; sender = c.start.result; shape = None } in
    c.in_ok-insert.ensures.items ∙ placed-insert s items c.partition_point-place.result (within c) (place c)
    ∙ ap (placed s) (c.self.view_is ∙ c.end.ensures)
    ∙ ap (λ (p : PlainSender). placed (record { name = c.args.name; endpoint = c.args.endpoint; sender = p; shape = None })
    (without_sender c.args.name c.args.endpoint c.args.self.now)) c.start.ensures
