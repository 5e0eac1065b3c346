use Rattle.hn_base.proofs.Names.{◌≡◌, ◌↔◌, ◌⊎◌, List, Contains, subst, take_all}
use Rattle.hn_assign.proofs.Names.{AssignedPrefix, Advertised}
use Rattle.hn_assign.proofs.AdvertisedBy.{said_by, of_node, both}
use Rattle.hn_assign.proofs.GrownByEach.{Of, grown_none, grown_more, push_adds}
use Rattle.hn_assign.proofs.gathering.add_node.Goals as goal

pub loop-said-init : goal.loop-said-init
loop-said-init c = grown_none (λ (s : AssignedPrefix) a. said_by c.args.node.now.id s ≡ a) c.args.items.now.items

pub loop-said-preserved : goal.loop-said-preserved
loop-said-preserved c =
    rw c.in_ok-push.ensures.items
    (grown_more (λ (s : AssignedPrefix) a. said_by c.args.node.now.id s ≡ a) c.args.items.now.items c.loop-said.items.items _ c.assigned-said-items.result.now
    c.loop-said.said-index c.said-item.result c.loop-said-test.true c.said-item.is c.loop-said.invariant
    (push_adds c.loop-said.items.items (said_by c.args.node.now.id c.said-item.result)))

pub returns : goal.returns
returns c a =
    let P : AssignedPrefix → Advertised → Type 0 = λ s b. said_by c.args.node.now.id s ≡ b in
    let all = subst (λ (seen : List AssignedPrefix). Contains c.loop-said.items.items a ↔ (Contains c.args.items.now.items a ⊎ Of P seen a))
    (take_all c.loop-said.said-index c.assigned-said-items.result.now c.loop-said-test.false) (c.loop-said.invariant a) in
    both all (of_node c.args.node.now c.assigned-said-items.result.now c.args.items.now.items a c.assigned-said-items.ensures)
