-- Common Links while time passes.
use Rattle.hn_base.proofs.Names.{◌≡◌, ◌∙◌, ◌↔◌, ℕ, List, Contains, refl, sym, ap, subst, inl, inr}
use Rattle.hn_link.proofs.Names.{NodeId, EpId, IsLinked, PlainView, Entry, IsLinkedWithOwn, IsOnCommonLink, IsCommonLink}
use Rattle.hn_base.proofs.AscendingLists.{Contains-map, Contains-from_map}
use Rattle.hn_data.specs.Later.{IsLater, aged_entry}
use Rattle.hn_link.specs.Laws.{CommonLinkOfLater}

-- linked endpoints, by equal data and names
with_data : (a a' : List ℕ) (x x' e : ℕ) (b b' : List ℕ) (y f : ℕ) → a ≡ a' → x ≡ x' → b ≡ b' → IsLinked a x e b y f → IsLinked a' x' e b' y f
with_data a a' x x' e b b' y f p q r h = rw (← p, ← q, ← r) h

module _ (before after : PlainView) (later : IsLater before after) (e : ℕ) where
  kept : (x : Entry) → Contains before.nodes x → Contains after.nodes (aged_entry later.time x)
  kept x there = subst (λ (nodes : List Entry). Contains nodes (aged_entry later.time x)) (sym later.nodes) (Contains-map (aged_entry later.time) before.nodes x there)

  known : (y : Entry) → Contains after.nodes y → (x : Entry) × Contains before.nodes x × (aged_entry later.time x ≡ y)
  known y there = Contains-from_map (aged_entry later.time) before.nodes y (subst (λ (nodes : List Entry). Contains nodes y) later.nodes there)

  still_linked : (y f : ℕ) → IsLinkedWithOwn before e y f → IsLinkedWithOwn after e y f
  still_linked y f h = record {
    own = aged_entry later.time h.own;
    own_there = kept h.own h.own_there;
    own_is = h.own_is ∙ sym later.own;
    node = aged_entry later.time h.node;
    node_there = kept h.node h.node_there;
    node_is = h.node_is;
    linked = with_data h.own.body h.own.body before.own after.own e h.node.body h.node.body y f refl (sym later.own) refl h.linked;
  }

  was_linked : (y f : ℕ) → IsLinkedWithOwn after e y f → IsLinkedWithOwn before e y f
  was_linked y f h =
      let own = known h.own h.own_there in
      let node = known h.node h.node_there in
      let own_data : h.own.body ≡ own.0.body = ap (λ (n : Entry). n.body) (sym own.2) in
      let node_data : h.node.body ≡ node.0.body = ap (λ (n : Entry). n.body) (sym node.2) in
      record {
        own = own.0;
        own_there = own.1;
        own_is = ap (λ (n : Entry). n.id.0) own.2 ∙ h.own_is ∙ later.own;
        node = node.0;
        node_there = node.1;
        node_is = ap (λ (n : Entry). n.id.0) node.2 ∙ h.node_is;
        linked = with_data h.own.body own.0.body after.own before.own e h.node.body node.0.body y f own_data later.own node_data h.linked;
      }

  same : (at : NodeId × EpId) → IsOnCommonLink before e at ↔ IsOnCommonLink after e at
  same at = (
    λ h. elim h [
      | inl here ↦ inl (record { own = here.own ∙ sym later.own; endpoint = here.endpoint })
      | inr linked ↦ inr (still_linked at.0.0 at.1.0 linked)
    ],
    λ h. elim h [
      | inl here ↦ inl (record { own = here.own ∙ later.own; endpoint = here.endpoint })
      | inr linked ↦ inr (was_linked at.0.0 at.1.0 linked)
    ],
  )

  pub of_later : (common : List (NodeId × EpId)) → IsCommonLink before e common ↔ IsCommonLink after e common
  of_later common = (
    λ is. record { ascending = is.ascending; exact = λ at. (λ h. (same at).0 ((is.exact at).0 h), λ h. (is.exact at).1 ((same at).1 h)) },
    λ is. record { ascending = is.ascending; exact = λ at. (λ h. (same at).1 ((is.exact at).0 h), λ h. (is.exact at).1 ((same at).0 h)) },
  )

pub common_of_later : CommonLinkOfLater
common_of_later before after e common later = of_later before after later e common
