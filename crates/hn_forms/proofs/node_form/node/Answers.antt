use Rattle.hn_base.proofs.Names.{[], ◌∷◌, refl}
use Rattle.hn_forms.proofs.NodeSources.{node_read, node_unread}
use Rattle.hn_forms.proofs.Sources.{Contains-more}
use Rattle.hn_forms.proofs.node_form.node.Goals as goal

pub returns-in-Ok-clause-node : goal.returns-in-Ok-clause-node
returns-in-Ok-clause-node g c _ =
    node_read _ _ _ _ _ _ _ _ _ _ c.in-Ok.ensures.all c.in-Ok.ensures.whole (rw (← c.deref.ensures.value) c.node_of.ensures.node) (rw (← c.deref.ensures.value) c.node_of.ensures.only)

pub returns-in-Ok-clause-statuses : goal.returns-in-Ok-clause-statuses
returns-in-Ok-clause-statuses g c = Contains-more (0 ∷ 2 ∷ []) (4 ∷ 5 ∷ 6 ∷ []) 3 c.node_of.result.status c.node_of.ensures.statuses

pub returns-in-Err-NoMemory-clause-node : goal.returns-in-Err-NoMemory-clause-node
returns-in-Err-NoMemory-clause-node g c _ = node_unread _ _ _ _ _ _ _ c.of-in-Err-NoMemory.ensures.status c.of-in-Err-NoMemory.ensures.not_served refl
