-- A node of a view, and what it says.
use Rattle.hn_base.proofs.Names.{◌≡◌, ℕ, Some, sym, ap, subst, ◌∙◌, slice_get, IsStrictlySortedBy, nat_cmp}
use Rattle.hn_link.proofs.Names.{NodeId, Letter, PlainCaps, PlainView, ids_of, Entry, part_is, one_element, IsServing}
use Rattle.hn_data.specs.Items.{HasItems}
use Rattle.hn_data.specs.Said.{version_of}

-- what a node that serves says is what the node with its identifier says
pub version_there : (view : PlainView) (letter : Letter) (id : NodeId) (caps : PlainCaps) (place : ℕ) (x : Entry) → IsStrictlySortedBy nat_cmp (ids_of view.nodes)
    → slice_get view.nodes place ≡ Some x → slice_get (ids_of view.nodes) place ≡ Some id.0 → IsServing view letter id caps
    → HasItems x.body (λ items. version_of items ≡ Some caps)
version_there view letter id caps place x up at is serves =
    let same : x.id.0 ≡ id.0 = part_is (λ n. n.id.0) view.nodes place id.0 x at is in
    let one : serves.node ≡ x = one_element (λ n. n.id.0) view.nodes up place x serves.node at serves.there (ap (λ n. n.0) serves.is_it ∙ sym same) in
    subst (λ (y : Entry). HasItems y.body (λ items. version_of items ≡ Some caps)) one serves.version
