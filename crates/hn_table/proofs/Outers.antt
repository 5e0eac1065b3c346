-- The search for a candidate that has a prefix inside.
use Rattle.hn_base.proofs.Names.{◌≡◌, ◌≢◌, ◌↔◌, ◌∙◌, ◌+◌, ◌<◌, ◌≤◌, ℕ, List, length, take, get_or, Option, None, Some, Contains, sym, ap, subst, arith, ◌-◌, ◌^◌, IfNone, take_all, pow_pos, All-more}
use Rattle.hn_base.proofs.Names.{All-contains, PlainPrefix, IsWithin, last_address}
use Rattle.hn_table.proofs.Names.{All, HasDelegation, HasVersion, PlainView, Delegation, Entry, IsAnnouncedPrefix, IsNoOuter, HasNoOuter}
use Rattle.std.specs.Prelude.{IfSome}
use Rattle.hn_base.proofs.Prefixes.{same_prefix}
use Rattle.hn_table.specs.Outer.{IsOuterAmong, IsOuterAt, IsOuterCandidate}

-- the elements of a list, as a `for` goes over a slice
module _ {A : Type 0} (xs : List A) (i : ℕ) where
  pub has_this : (x : A) → i < length xs → x ≡ get_or xs i x → Contains xs x
  has_this x within is = (i, within, sym is)

  pub each_more : (P : A → Type 0) (x : A) → i < length xs → x ≡ get_or xs i x → All P (take i xs) → P x → All P (take (i + 1) xs)
  each_more P x within is so_far here = All-more P xs i x within so_far (subst P is here)

  pub each : (P : A → Type 0) → length xs ≤ i → All P (take i xs) → All P xs
  each P past so_far = subst (λ (ys : List A). All P ys) (take_all i xs past) so_far

-- one that a node of the view has is a candidate
pub outer_candidate : (view : PlainView) (node : Entry) (p q : PlainPrefix) → Contains view.nodes node → IsOuterAt node p q → IsOuterCandidate view p q
outer_candidate view node p q seen at =
    let has = at.outer.has in
    record {
      candidate = record {
        short = subst (λ (x : PlainPrefix). x.len ≤ 64) at.is_it has.short;
        node = node;
        delegation = at.delegation;
        announced = record { reachable = seen; version = at.version; said = at.said; live = has.live };
        is_it = at.is_it;
      };
      inside = subst (λ (x : PlainPrefix). IsWithin p x) at.is_it has.inside;
      different = subst (λ (x : PlainPrefix). x ≢ p) at.is_it at.outer.different;
    }

-- where no node of the view has one, the prefix is inside no other candidate
pub no_outer_candidate : (view : PlainView) (p : PlainPrefix) → All (HasNoOuter p) view.nodes → (q : PlainPrefix) → IsAnnouncedPrefix view q → IsWithin p q → q ≡ p
no_outer_candidate view p none q candidate inside =
    let a = candidate.announced in
    let is = sym candidate.is_it in
    let here : HasNoOuter p candidate.node = All-contains (HasNoOuter p) view.nodes candidate.node none a.reachable in
    is ∙ here a.version candidate.delegation a.said (record {
      short = subst (λ (x : PlainPrefix). x.len ≤ 64) is candidate.short;
      live = a.live;
      inside = subst (λ (x : PlainPrefix). IsWithin p x) is inside;
    })

-- what the delegations of a node give, if it has an HNCP-Version
module _ (node : Entry) (p : PlainPrefix) (said : List Delegation) (exact : (d : Delegation) → Contains said d ↔ HasDelegation node.body d) where
  pub found_at : HasVersion node.body → (answer : Option PlainPrefix) → IfSome answer (IsOuterAmong node.age said p) → IfSome answer (IsOuterAt node p)
  found_at version None found = tt
  found_at version (Some q) found = record {
    version = version;
    delegation = found.delegation;
    said = (exact found.delegation).0 found.among;
    outer = found.outer;
    is_it = found.is_it;
  }

  pub none_at : (answer : Option PlainPrefix) → IfNone answer ((d : Delegation) → Contains said d → IsNoOuter node.age p d) → IfNone answer (HasNoOuter p node)
  none_at None none = λ version d has. none d ((exact d).1 has)
  none_at (Some q) none = tt

-- a prefix that has another one inside is shorter
pub shorter : (p q : PlainPrefix) → q.len ≤ p.len → (q.bits ≤ p.bits) × (last_address p ≤ last_address q) → q ≢ p → q.len < p.len
shorter p q not_longer range different =
    let low = range.0 in
    let high = range.1 in
    let some = pow_pos (128 - p.len) in
    let other : ¬ (q.len ≡ p.len) = λ same.
    let sizes : 2 ^ (128 - q.len) ≡ 2 ^ (128 - p.len) = ap (λ n. 2 ^ (128 - n)) same in
    different (same_prefix q p (omega (arith, low, high, some, sizes)) same) in
    omega (arith, not_longer, other)
