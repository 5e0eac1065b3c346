-- Two lists of leaves agree in some way: it cannot be that they do not.
use Rattle.hn_base.proofs.Names.{◌≡◌, ◌≢◌, ◌∙◌, ◌<◌, ◌≤◌, ℕ, zero, suc, List, [], ◌∷◌, length, length-append, refl, ap, sym, inl, inr, arith, w32, to_be_bytes, All-contains, Some!, name_text}
use Rattle.hn_world.proofs.Names.{Name, some_then, body_at, EqualHashesAgreeOrCollide, hash_of, leaf_text, network_hash, Differ, Same, Collide, Leaf, HashIsOfLeaves, leaves_of, Agrees, WorldIsSound}
use Rattle.hn_world.proofs.Names.{is_named, IsReplayed, IsSoundMember, Parts}
use Rattle.hn_base.proofs.DecidingTests.{texts_cases}
use Rattle.hn_base.proofs.Elements.{found_passes}
use Rattle.hn_base.proofs.FrontOfList.{same_parts}
use Rattle.hn_base.proofs.SomeExists.{some_by, some_least}
use Rattle.hn_hash.specs.Agreement.{CollidesInPlace}
use Rattle.hn_hash.specs.Laws.{HashHasEightBytes}
use Rattle.hn_hash.specs.Network.{leaf_entry}
use Rattle.hn_world.specs.Existing.{AgreementExists, RoutersAgreeSomehow, AgreeSomehow}

-- ---- leaves of one text

-- as many, and at each place node data of one hash
record AreAlike (a b : List Leaf) : Type 0 where
  pub len : length a ≡ length b
  pub one_hash : (i : ℕ) → i < length a → hash_of (body_at a i) ≡ hash_of (body_at b i)

module _ (eight : HashHasEightBytes) where
  entry_long : (x : Leaf) → length (leaf_entry x) ≡ 12
  entry_long x =
      let joined = length-append (to_be_bytes w32 x.number) (hash_of x.body) in
      let hash = (eight x.body).0 in
      omega (arith, joined, hash)

  not_empty : (x : Leaf) (xs : List Leaf) → leaf_text (x ∷ xs) ≡ [] → ⊥
  not_empty x xs e =
      let none = ap length e in
      let joined = length-append (leaf_entry x) (leaf_text xs) in
      let long = entry_long x in
      omega (arith, none, joined, long)

  alike : (a b : List Leaf) → leaf_text a ≡ leaf_text b → AreAlike a b
  alike [] [] e = record { len = refl; one_hash = λ i less. absurd (omega (arith, less)) }
  alike [] (y ∷ ys) e = absurd (not_empty y ys (sym e))
  alike (x ∷ xs) [] e = absurd (not_empty x xs e)
  alike (x ∷ xs) (y ∷ ys) e =
      let parts = same_parts (leaf_entry x) (leaf_entry y) (leaf_text xs) (leaf_text ys) (entry_long x ∙ sym (entry_long y)) e in
      let first = same_parts (to_be_bytes w32 x.number) (to_be_bytes w32 y.number) (hash_of x.body) (hash_of y.body) refl parts.0 in
      record { len = ap suc (alike xs ys parts.1).len; one_hash = at first.1 (alike xs ys parts.1) }
    where
      at : hash_of x.body ≡ hash_of y.body → AreAlike xs ys → (i : ℕ) → i < length (x ∷ xs) → hash_of (body_at (x ∷ xs) i) ≡ hash_of (body_at (y ∷ ys) i)
      at first rest zero less = first
      at first rest (suc i) less = rest.one_hash i (omega (arith, less))

  -- ---- a collision

  -- the first place at which node data differ shows it
  some_place : (a b : List Leaf) → leaf_text a ≡ leaf_text b → CollidesInPlace a b → Some! (Agrees a b)
  some_place a b texts (place, within, collides) =
      some_then (some_least (λ i. body_at a i ≢ body_at b i) place collides.differ) (λ i least none.
      let are = alike a b texts in
      let below : i ≤ place = least.0 in
      let here : i < length a = omega (arith, below, within) in
      let there : i < length b = let len = are.len in omega (arith, here, len) in
      none (Collide (body_at a i) (body_at b i)) (
        record { differ = least.1; one_hash = are.one_hash i here },
        inr (texts, (i, record { in_both = (here, there); before = λ k less. same_before a b i k less least.2; here = least.1 }, refl, refl)),
      ))
    where
      same_before : (a b : List Leaf) (i k : ℕ) → k < i → ((j : ℕ) → body_at a j ≢ body_at b j → i ≤ j) → body_at a k ≡ body_at b k
      same_before a b i k less least = elim (texts_cases (body_at a k) (body_at b k)) [
        | inl same ↦ same
        | inr other ↦ let from = least k other in absurd (omega (arith, from, less))
      ]

  -- ---- how they agree

  pub some_agreement : EqualHashesAgreeOrCollide → AgreementExists
  some_agreement agree_or_collide a b a_fits b_fits = some_by (network_hash a ≡ network_hash b) same_net (λ other none. none Differ other)
    where
      same_net : network_hash a ≡ network_hash b → Some! (Agrees a b)
      same_net same = elim (agree_or_collide a b a_fits b_fits same) [
        | inl are ↦ λ none. none Same are
        | inr (inl texts) ↦ λ none. none (Collide (leaf_text a) (leaf_text b)) (texts, inl (texts.differ, refl, refl))
        | inr (inr (texts, place)) ↦ some_place a b texts place
      ]

  pub routers_agree : EqualHashesAgreeOrCollide → HashIsOfLeaves → WorldIsSound → RoutersAgreeSomehow
  routers_agree agree_or_collide of_leaves sound w a b replayed in_a in_b =
      let is = sound w replayed in
      let left = of_leaves a.router (All-contains (IsSoundMember w.moment) w.members a is in_a).router in
      let right = of_leaves b.router (All-contains (IsSoundMember w.moment) w.members b is in_b).router in
      some_agreement agree_or_collide (leaves_of a.router) (leaves_of b.router) left.1 right.1

-- ---- the routers of two names

pub named_agree : RoutersAgreeSomehow → (w : Parts) → IsReplayed w → (a b : Name) → AgreeSomehow a b w
unfolding AgreeSomehow
named_agree agree w replayed a b m n is_m is_n =
    agree w m n replayed (found_passes (is_named (name_text a)) w.members m is_m).0 (found_passes (is_named (name_text b)) w.members n is_n).0
