-- What is kept of a node.
use Rattle.hn_base.proofs.Names.{◌≡◌, ◌∙◌, ◌⊎◌, true, false, List, [], ◌∷◌, Option, Some, None, Contains, IfSome, IsSome, refl, sym, ap, subst, inl, inr, ⊎_elim, ◌==◌, ◌&&◌, cases_Bool, and_parts}
use Rattle.hn_base.proofs.Names.{and_from, cond-true, cond-false, eqb-true, eq-eqb}
use Rattle.hn_watch.proofs.Names.{NodeId, Contains-head, Contains-tail, Contains-cases, nothing_in, Shown, is_older, keeping, latest_of}
use Rattle.std.proofs.Common.{fold}
use Rattle.std.proofs.lemmas.Bool.{and_left, and_right}

-- what is kept stays, or one of the node takes its place
keeping_either : (node : NodeId) (k : Option Shown) (one : Shown) → (keeping node k one ≡ k) ⊎ ((keeping node k one ≡ Some one) × (one.node.0 ≡ node.0))
keeping_either node None one =
    elim (cases_Bool (one.node.0 == node.0)) [
      | inl is ↦ inr (cond-true _ _ _ is, eqb-true one.node.0 node.0 is)
      | inr other ↦ inl (cond-false _ _ _ other)
    ]
keeping_either node (Some k) one =
    elim (cases_Bool (one.node.0 == node.0 && is_older k.number one.number)) [
      | inl is ↦ inr (cond-true _ _ _ is, eqb-true one.node.0 node.0 (and_parts _ _ is).0)
      | inr other ↦ inl (cond-false _ _ _ other)
    ]

-- one of another node changes nothing
pub keeping_other : (node : NodeId) (k : Option Shown) (one : Shown) → (one.node.0 == node.0) ≡ false → keeping node k one ≡ k
keeping_other node None one other = cond-false _ _ _ other
keeping_other node (Some k) one other = cond-false _ _ _ (and_left _ _ other)

pub keeping_first : (node : NodeId) (one : Shown) → one.node.0 ≡ node.0 → keeping node None one ≡ Some one
keeping_first node one is = cond-true _ _ _ (eq-eqb one.node.0 node.0 is)

-- what holds of each that is shown of the node holds of what is kept
kept_from : (node : NodeId) (P : Shown → Type 0) (k : Option Shown) → IfSome k P → (shown : List Shown) → ((one : Shown) → Contains shown one → one.node.0 ≡ node.0 → P one)
    → IfSome (fold (keeping node) k shown) P
kept_from node P k holds [] each = holds
kept_from node P k holds (one ∷ shown) each =
    kept_from node P (keeping node k one)
    (elim (keeping_either node k one) [
      | inl same ↦ subst (λ (o : Option Shown). IfSome o P) (sym same) holds
      | inr taken ↦ subst (λ (o : Option Shown). IfSome o P) (sym taken.0) (each one (Contains-head one shown) taken.1)
    ])
    shown (λ other there. each other (Contains-tail one shown other there))

keeping_some : (node : NodeId) (k : Option Shown) (one : Shown) → IsSome k → IsSome (keeping node k one)
keeping_some node k one some =
    elim (keeping_either node k one) [ inl same ↦ subst (λ (o : Option Shown). IsSome o) (sym same) some | inr taken ↦ subst (λ (o : Option Shown). IsSome o) (sym taken.0) refl ]

kept_stays : (node : NodeId) (k : Option Shown) → IsSome k → (shown : List Shown) → IsSome (fold (keeping node) k shown)
kept_stays node k some [] = some
kept_stays node k some (one ∷ shown) = kept_stays node (keeping node k one) (keeping_some node k one some) shown

-- one of the node is kept, or something is
keeping_here : (node : NodeId) (k : Option Shown) (one : Shown) → one.node.0 ≡ node.0 → IsSome (keeping node k one)
keeping_here node None one is = subst (λ (o : Option Shown). IsSome o) (sym (keeping_first node one is)) refl
keeping_here node (Some k) one is = keeping_some node (Some k) one refl

kept_there : (node : NodeId) (k : Option Shown) (shown : List Shown) (one : Shown) → Contains shown one → one.node.0 ≡ node.0 → IsSome (fold (keeping node) k shown)
kept_there node k [] one there is = absurd (nothing_in one there)
kept_there node k (first ∷ shown) one there is =
    ⊎_elim (λ (e : first ≡ one). kept_stays node (keeping node k first) (keeping_here node k first (ap (λ (s : Shown). s.node.0) e ∙ is)) shown)
    (λ (later : Contains shown one). kept_there node (keeping node k first) shown one later is)
    (Contains-cases first shown one there)

-- what is kept of a node is shown, and of it
pub kept_is : (node : NodeId) (shown : List Shown) (k : Shown) → latest_of node shown ≡ Some k → (k.node.0 ≡ node.0) × Contains shown k
kept_is node shown k is =
    subst (λ (o : Option Shown). IfSome o (λ s. (s.node.0 ≡ node.0) × Contains shown s)) is
    (kept_from node (λ s. (s.node.0 ≡ node.0) × Contains shown s) None tt shown (λ one there of_node. (of_node, there)))

-- of a node that is shown something is kept
pub kept_some : (node : NodeId) (shown : List Shown) (one : Shown) → Contains shown one → one.node ≡ node → (k : Shown) × (latest_of node shown ≡ Some k)
kept_some node shown one there is = told (latest_of node shown) (kept_there node None shown one there (ap (λ (n : NodeId). n.0) is))
  where
    told : (o : Option Shown) → IsSome o → (k : Shown) × (o ≡ Some k)
    told None some = absurd cc
    told (Some k) some = (k, refl)

pub keeping_newer : (node : NodeId) (k one : Shown) → one.node.0 ≡ node.0 → is_older k.number one.number ≡ true → keeping node (Some k) one ≡ Some one
keeping_newer node k one is older = cond-true _ _ _ (and_from _ _ (eq-eqb one.node.0 node.0 is) older)

pub keeping_not_newer : (node : NodeId) (k one : Shown) → is_older k.number one.number ≡ false → keeping node (Some k) one ≡ Some k
keeping_not_newer node k one not_older = cond-false _ _ _ (and_right _ _ not_older)
