-- What each edit keeps, the edit of an event keeps; and what it leaves as it is.
use Rattle.hn_base.proofs.Names.{◌≡◌, ◌≢◌, ◌∙◌, ◌<◌, ℕ, Bool, true, false, not, cond, List, [], ◌∷◌, map, filter, Option, ap, refl, sym, subst, arith, nat_eq, ◌==◌, ◌||◌, option_eq, or_parts}
use Rattle.hn_base.proofs.Names.{eqb-false, ltb-true, not-false, cond_both, PlainPrefix}
use Rattle.hn_router.proofs.Names.{length, nat_lt, Caps, EpId, Port, OwnAddress, is_attached, endpoints_of, Running, delegating, withdrawing, IsAttaching, detaching, setting_caps, setting_private}
use Rattle.hn_router.proofs.Names.{setting_addresses, IsRestarting, words_taken, PlainEvent, Attach, Restart, is_refused, IsEdit, endpoints_by}
use Rattle.hn_own.specs.Addresses.{may_address}
use Rattle.hn_own.specs.OwnPrefixes.{may_delegate}
use Rattle.hn_router.specs.Act.{Detach, External, Withdraw, SetCaps, Private, Addresses}

-- what endpoints that come and go keep, where this holds of the event
pub record EndpointsKeep (May : PlainEvent → Type 0) (P : Running → Type 0) : Type 0 where
  pub attaching : (at : EpId) (r a : Running) → May (Attach at) → 0 < at.0 → length r.state.ports < 16 → IsAttaching at r a → P r → P a
  pub detaching : (at : EpId) (r : Running) → P r → P (detaching at r)

-- what delegated prefixes, a private link and own addresses that an event gives keep, where this holds of the event
pub record GivenKeep (May : PlainEvent → Type 0) (P : Running → Type 0) : Type 0 where
  pub delegating : (prefix : PlainPrefix) (valid preferred : ℕ) (r : Running) → May (External prefix valid preferred)
      → may_delegate prefix r.state.delegated ≡ true → P r → P (delegating prefix valid preferred r)
  pub private : (length : Option ℕ) (r : Running) → May (Private length) → P r → P (setting_private length r)
  pub addressing : (list : List OwnAddress) (r : Running) → May (Addresses list) → may_address list r.state.ports ≡ true → P r → P (setting_addresses list r)

-- what the other edits keep
pub record OthersKeep (P : Running → Type 0) : Type 0 where
  pub withdrawing : (prefix : PlainPrefix) (r : Running) → P r → P (withdrawing prefix r)
  pub caps : (caps : Caps) (r : Running) → P r → P (setting_caps caps r)
  pub restarting : (r a : Running) → IsRestarting r a → P r → P a

module _ (May : PlainEvent → Type 0) (P : Running → Type 0) where
  attach_keeps : EndpointsKeep May P → (at : EpId) (r a : Running) → May (Attach at) → is_refused (Attach at) r.state ≡ false → IsAttaching at r a → P r → P a
  attach_keeps ends at r a may accepted attaches p =
      let full = not (nat_lt (length r.state.ports) 16) in
      let (some, rest) = or_parts (at.0 == 0) (is_attached at r.state.ports || full) accepted in
      let room : nat_lt (length r.state.ports) 16 ≡ true = not-false (nat_lt (length r.state.ports) 16) (or_parts (is_attached at r.state.ports) full rest).1 in
      let not_zero : at.0 ≢ 0 = eqb-false at.0 0 some in
      ends.attaching at r a may (omega arith) (ltb-true (length r.state.ports) 16 room) attaches p

  pub edit_keeps : EndpointsKeep May P → GivenKeep May P → OthersKeep P → (event : PlainEvent) (r a : Running) → May event → is_refused event r.state ≡ false
      → IsEdit event r a → P r → P a
  edit_keeps ends given others (Attach at) r a may accepted attaches p = attach_keeps ends at r a may accepted attaches p
  edit_keeps ends given others (Detach at) r a may accepted is p = subst P (sym is) (ends.detaching at r p)
  edit_keeps ends given others (External prefix valid preferred) r a may accepted is p =
      subst P (sym is) (given.delegating prefix valid preferred r may (not-false (may_delegate prefix r.state.delegated) accepted) p)
  edit_keeps ends given others (Withdraw prefix) r a may accepted is p = subst P (sym is) (others.withdrawing prefix r p)
  edit_keeps ends given others (SetCaps caps) r a may accepted is p = subst P (sym is) (others.caps caps r p)
  edit_keeps ends given others (Private length) r a may accepted is p = subst P (sym is) (given.private length r may p)
  edit_keeps ends given others (Addresses list) r a may accepted is p =
      subst P (sym is) (given.addressing list r may (not-false (may_address list r.state.ports) accepted) p)
  edit_keeps ends given others Restart r a may accepted restarts p = others.restarting r a restarts p
  edit_keeps ends given others _ r a may accepted is p = subst P (sym is) p

-- ---- what an edit leaves as it is

pub filter_parts : {A B : Type 0} (p : B → Bool) (f : A → B) (xs : List A) → map f (filter (λ x. p (f x)) xs) ≡ filter p (map f xs)
filter_parts p f [] = refl
filter_parts p f (x ∷ xs) = by_test (p (f x)) (filter_parts p f xs)
  where
    by_test : (b : Bool) → map f (filter (λ y. p (f y)) xs) ≡ filter p (map f xs)
        → map f (cond b (x ∷ filter (λ y. p (f y)) xs) (filter (λ y. p (f y)) xs)) ≡ cond b (f x ∷ filter p (map f xs)) (filter p (map f xs))
    by_test true more = ap (λ ys. f x ∷ ys) more
    by_test false more = more

-- no word is taken, the moment stays, and the endpoints follow the event
abbrev Leaves : PlainEvent → Running → Running → Type 0
Leaves event r a =
    (words_taken a ≡ words_taken r) × (a.state.moment ≡ r.state.moment) × (endpoints_of a.state.ports ≡ endpoints_by event (endpoints_of r.state.ports))

-- so it is where no endpoint is attached and the router does not restart
abbrev pub IsPlainEdit : PlainEvent → Type 0
IsPlainEdit (Attach at) = Unit {0}
IsPlainEdit Restart = Unit {0}
IsPlainEdit event = (r a : Running) → IsEdit event r a → Leaves event r a

private_leaves : (private : Option ℕ) (r : Running) → Leaves (Private private) r (setting_private private r)
private_leaves private r =
    cond_both (option_eq nat_eq private r.state.private) _ _ (Leaves (Private private) r) (λ _. (refl, refl, refl)) (λ _. (refl, refl, refl))

pub plain_edit : (event : PlainEvent) → IsPlainEdit event
plain_edit (Attach at) = tt
plain_edit Restart = tt
plain_edit (Detach at) = λ r a is. (
  ap words_taken is,
  ap (λ (x : Running). x.state.moment) is,
  ap (λ (x : Running). endpoints_of x.state.ports) is ∙ filter_parts (λ (e : EpId). not (e.0 == at.0)) (λ (p : Port). p.id) r.state.ports,
)
plain_edit (Private private) = λ r a is. subst (Leaves (Private private) r) (sym is) (private_leaves private r)
plain_edit _ = λ r a is. (ap words_taken is, ap (λ (x : Running). x.state.moment) is, ap (λ (x : Running). endpoints_of x.state.ports) is)
