use Rattle.hn_base.proofs.Names.{◌≡◌, take}
use Rattle.hn_assign.proofs.AdvertisedBy.{said_by}
use Rattle.hn_assign.proofs.GrownByEach.{Grown}
use Rattle.hn_assign.proofs.gathering.add_node.Given as goal

abbrev pub invariant-loop-said : goal.invariant-loop-said
invariant-loop-said l = Grown (λ s a. said_by l.node.id s ≡ a) l.initial.items.items (take l.said-index l.said-items) l.items.items
