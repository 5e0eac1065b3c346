-- What is remembered after one more is shown.
use Rattle.hn_base.proofs.Names.{◌≡◌, ◌≢◌, ◌∙◌, ℕ, Bool, true, false, cond, List, [], ◌∷◌, ◌++◌, Option, Some, None, map, filter, refl, sym, ap, subst, inl, inr, ◌==◌, ◌&&◌, cases_Bool, and_parts}
use Rattle.hn_base.proofs.Names.{and_from, eqb-true, eq-eqb, both_ways, append-nil, map-append, filter-append, node_cmp, is_eq}
use Rattle.hn_watch.proofs.Names.{NodeId, same_node, Shown, Claim, NodeNumber, Remembered, hashes_of, IsClaimOf, number_of, keeping, Remembers, RemembersSame}
use Rattle.std.proofs.lemmas.List.Sums.{fold-append}
use Rattle.hn_watch.proofs.Orders.{put_here, put_there, node_total, exact_node}
use Rattle.hn_watch.proofs.KeptLemmas.{keeping_other}
use Rattle.hn_watch.specs.Remembered.{claim_of, IsNoted}

abbrev is_of : NodeId → ℕ → Shown → Bool
is_of node number one = one.node.0 == node.0 && one.number == number

-- the hashes of a node and a number, after one more is shown
hashes_push : (node : NodeId) (number : ℕ) (shown : List Shown) (one : Shown)
    → hashes_of node number (shown ++ one ∷ []) ≡ hashes_of node number shown ++ map (λ s. s.hash) (cond (is_of node number one) (one ∷ []) [])
hashes_push node number shown one =
    ap (map (λ (s : Shown). s.hash)) (filter-append (is_of node number) shown (one ∷ []))
    ∙ map-append (λ (s : Shown). s.hash) (filter (is_of node number) shown) (filter (is_of node number) (one ∷ []))

module _ (shown : List Shown) (one : Shown) (old new : Remembered) (held : Remembers shown old) (noted : IsNoted one old new) where
  abbrev Claims : List Shown → NodeId → ℕ → Remembered → Type 0
  Claims shown node number r = IsClaimOf (hashes_of node number shown) (claim_of r node number)

  -- at the node and the number that are shown
  claim_here : Claims (shown ++ one ∷ []) one.node one.number new
  claim_here =
      let test : is_of one.node one.number one ≡ true = and_from _ _ (eq-eqb one.node.0 one.node.0 refl) (eq-eqb one.number one.number refl) in
      let hashes : hashes_of one.node one.number (shown ++ one ∷ []) ≡ hashes_of one.node one.number shown ++ one.hash ∷ [] =
      hashes_push one.node one.number shown one ∙ ap (λ b. hashes_of one.node one.number shown ++ map (λ s. s.hash) (cond b (one ∷ []) [])) test in
      subst (λ (hs : List (List ℕ)). IsClaimOf hs (claim_of new one.node one.number)) (sym hashes) (noted.claim (hashes_of one.node one.number shown) (held.claims one.node one.number))

  -- elsewhere
  claim_there : (node : NodeId) (number : ℕ) → is_of node number one ≡ false → Claims (shown ++ one ∷ []) node number new
  claim_there node number test =
      let hashes : hashes_of node number (shown ++ one ∷ []) ≡ hashes_of node number shown =
      hashes_push node number shown one ∙ ap (λ b. hashes_of node number shown ++ map (λ s. s.hash) (cond b (one ∷ []) [])) test ∙ append-nil (hashes_of node number shown) in
      let key : NodeNumber = record { node = node; number = number } in
      let other : key ≢ number_of one = λ e. both_ways (is_of node number one) test
      (and_from _ _ (eq-eqb one.node.0 node.0 (ap (λ (n : NodeNumber). n.node.0) (sym e))) (eq-eqb one.number number (ap (λ (n : NodeNumber). n.number) (sym e)))) in
      subst (λ (o : Option Claim). IsClaimOf (hashes_of node number (shown ++ one ∷ [])) o) (sym (noted.other_claims node number other))
      (subst (λ (hs : List (List ℕ)). IsClaimOf hs (claim_of old node number)) (sym hashes) (held.claims node number))

  claim_each : (node : NodeId) (number : ℕ) → Claims (shown ++ one ∷ []) node number new
  claim_each node number =
      elim (cases_Bool (is_of node number one)) [
        | inl test ↦
            (let parts = and_parts _ _ test in
            let node_is : one.node ≡ node = same_node one.node node (eqb-true one.node.0 node.0 parts.0) in
            let number_is : one.number ≡ number = eqb-true one.number number parts.1 in
            subst (λ (n : NodeId). Claims (shown ++ one ∷ []) n number new) node_is (subst (λ (k : ℕ). Claims (shown ++ one ∷ []) one.node k new) number_is claim_here))
        | inr test ↦ claim_there node number test
      ]

  pub remembers_more : Remembers (shown ++ one ∷ []) new
  remembers_more = record {
    claims = claim_each;
    latest = λ node. noted.kept node ∙ ap (λ k. keeping node k one) (held.latest node) ∙ sym (fold-append (keeping node) None shown (one ∷ []));
  }

-- ---- the same is remembered

pub same_after : (a b c : Remembered) → RemembersSame a b → RemembersSame b c → RemembersSame a c
same_after a b c p q = record {
  claims = λ node number. q.claims node number ∙ p.claims node number;
  kept = λ node. q.kept node ∙ p.kept node;
}

-- what the same is remembered of, is remembered
pub remembers_same : (shown : List Shown) (old new : Remembered) → RemembersSame old new → Remembers shown old → Remembers shown new
remembers_same shown old new same held = record {
  claims = λ node number. subst (λ (o : Option Claim). IsClaimOf (hashes_of node number shown) o) (sym (same.claims node number)) (held.claims node number);
  latest = λ node. same.kept node ∙ held.latest node;
}

-- ---- what is kept, where a value was put at the node that is shown

pub kept_by_put : (one taken : Shown) (old new : NodeId → Option Shown)
    → ((node : NodeId) → new node ≡ cond (is_eq (node_cmp one.node node)) (Some taken) (old node)) → Some taken ≡ keeping one.node (old one.node) one
    → (node : NodeId) → new node ≡ keeping node (old node) one
kept_by_put one taken old new put is node =
    elim (cases_Bool (one.node.0 == node.0)) [
      | inl same ↦
          (let node_is : one.node ≡ node = same_node one.node node (eqb-true one.node.0 node.0 same) in
          subst (λ (n : NodeId). new n ≡ keeping n (old n) one) node_is (put_here node_cmp one.node taken old new put node_total ∙ is))
      | inr other ↦
          put_there node_cmp one.node taken old new put exact_node node (λ e. both_ways (one.node.0 == node.0) other (eq-eqb one.node.0 node.0 (ap (λ (n : NodeId). n.0) (sym e))))
          ∙ sym (keeping_other node (old node) one other)
    ]
