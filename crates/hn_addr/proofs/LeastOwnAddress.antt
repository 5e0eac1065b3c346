-- The least own address inside a prefix, one own address after the other; and whether it stays.
use Rattle.hn_base.proofs.Names.{◌≡◌, ◌⊎◌, ℕ, ◌+◌, ◌<◌, List, [], ◌∷◌, ◌++◌, take, slice_get, Contains, Option, Some, None, refl, sym, ap, subst, ⊎_elim, arith, MatchOption, Contains-push}
use Rattle.hn_base.proofs.Names.{Contains-push_cases, Contains-append_left, IsInside}
use Rattle.hn_addr.proofs.Names.{Assigned, NodeId, nothing_in, front_at, PlainView, OwnAddress, IsLeastOwn, Stays, HasCome, AreOthers, HasAddressAbove, IsLeastFound, Others}
use Rattle.hn_base.specs.declared.ids.EpId.{EpId}
use Rattle.hn_addr.specs.Own.{IsOwnInside, IsLesser}
use Rattle.hn_addr.proofs.OtherAddresses.{above_there, above_from}

-- ---- one own address more

pub least_none : (c : Assigned) → IsLeastFound [] c None
least_none c x there = absurd (nothing_in (c.endpoint, x) there)

-- an own address is the last, or was there
cases_of : (own : List OwnAddress) (a : OwnAddress) (e : EpId) (x : ℕ) → Contains (own ++ a ∷ []) (e, x) → Contains own (e, x) ⊎ (a ≡ (e, x))
cases_of own a e x h = Contains-push_cases own a (e, x) h

-- one that is not inside
passed : (own : List OwnAddress) (a : OwnAddress) (c : Assigned) (found : Option ℕ) → ¬ IsOwnInside c a → IsLeastFound own c found → IsLeastFound (own ++ a ∷ []) c found
passed own a c None outside none = λ x there inside.
    ⊎_elim (λ (before : Contains own (c.endpoint, x)). none x before inside)
    (λ (last : a ≡ (c.endpoint, x)). outside (subst (IsOwnInside c) (sym last) (record { endpoint = refl; inside = inside })))
    (cases_of own a c.endpoint x there)
passed own a c (Some least) outside g = record {
  own_is = Contains-append_left own (a ∷ []) (c.endpoint, least) g.own_is;
  inside = g.inside;
  least = λ y there inside.
      ⊎_elim (λ (before : Contains own (c.endpoint, y)). g.least y before inside)
      (λ (last : a ≡ (c.endpoint, y)). absurd (outside (subst (IsOwnInside c) (sym last) (record { endpoint = refl; inside = inside }))))
      (cases_of own a c.endpoint y there);
}

last_there : (own : List OwnAddress) (a : OwnAddress) (c : Assigned) → IsOwnInside c a → Contains (own ++ a ∷ []) (c.endpoint, a.1)
last_there own a c is =
    let same : a ≡ (c.endpoint, a.1) = λ i. (is.endpoint i, a.1) in
    subst (Contains (own ++ a ∷ [])) same (Contains-push own a)

-- one that is
taken : (own : List OwnAddress) (a : OwnAddress) (c : Assigned) (found : Option ℕ) (lesser : ℕ) → IsOwnInside c a
    → MatchOption found (lesser ≡ a.1) (λ before. IsLesser before a.1 lesser) → IsLeastFound own c found → IsLeastFound (own ++ a ∷ []) c (Some lesser)
taken own a c None lesser is alone none = record {
  own_is = subst (λ (x : ℕ). Contains (own ++ a ∷ []) (c.endpoint, x)) (sym alone) (last_there own a c is);
  inside = subst (λ (x : ℕ). IsInside x c.prefix) (sym alone) is.inside;
  least = λ y there inside.
      ⊎_elim (λ (before : Contains own (c.endpoint, y)). absurd (none y before inside))
      (λ (last : a ≡ (c.endpoint, y)). let same : a.1 ≡ y = ap (λ (b : OwnAddress). b.1) last in omega (arith, alone, same))
      (cases_of own a c.endpoint y there);
}
taken own a c (Some best) lesser is two g = record {
  own_is = ⊎_elim (λ (first : lesser ≡ best). subst (λ (x : ℕ). Contains (own ++ a ∷ []) (c.endpoint, x)) (sym first) (Contains-append_left own (a ∷ []) (c.endpoint, best) g.own_is))
      (λ (second : lesser ≡ a.1). subst (λ (x : ℕ). Contains (own ++ a ∷ []) (c.endpoint, x)) (sym second) (last_there own a c is))
      two.one;
  inside = ⊎_elim (λ (first : lesser ≡ best). subst (λ (x : ℕ). IsInside x c.prefix) (sym first) g.inside)
      (λ (second : lesser ≡ a.1). subst (λ (x : ℕ). IsInside x c.prefix) (sym second) is.inside)
      two.one;
  least = λ y there inside.
      ⊎_elim (λ (before : Contains own (c.endpoint, y)). let below = g.least y before inside in let first = two.first in omega (arith, below, first))
      (λ (last : a ≡ (c.endpoint, y)). let same : a.1 ≡ y = ap (λ (b : OwnAddress). b.1) last in let second = two.second in omega (arith, second, same))
      (cases_of own a c.endpoint y there);
}

-- as a `for` goes over a slice
pub passed_next : (own : List OwnAddress) (n : ℕ) (a : OwnAddress) (c : Assigned) (found : Option ℕ) → slice_get own n ≡ Some a → ¬ IsOwnInside c a
    → IsLeastFound (take n own) c found → IsLeastFound (take (n + 1) own) c found
passed_next own n a c found at outside h = subst (λ (l : List OwnAddress). IsLeastFound l c found) (sym (front_at own n a at)) (passed (take n own) a c found outside h)

pub taken_next : (own : List OwnAddress) (n : ℕ) (a : OwnAddress) (c : Assigned) (found : Option ℕ) (lesser : ℕ) → slice_get own n ≡ Some a → IsOwnInside c a
    → MatchOption found (lesser ≡ a.1) (λ before. IsLesser before a.1 lesser) → IsLeastFound (take n own) c found → IsLeastFound (take (n + 1) own) c (Some lesser)
taken_next own n a c found lesser at is two h = subst (λ (l : List OwnAddress). IsLeastFound l c (Some lesser)) (sym (front_at own n a at)) (taken (take n own) a c found lesser is two h)

-- ---- one least

pub one_least : (own : List OwnAddress) (c : Assigned) (x y : ℕ) → IsLeastOwn own c x → IsLeastOwn own c y → x ≡ y
one_least own c x y a b =
    let first = a.least y b.own_is b.inside in
    let second = b.least x a.own_is a.inside in
    omega (arith, first, second)

-- ---- whether it stays

module _ (view : PlainView) (id : NodeId) (own : List OwnAddress) (others : Others) (list : List OwnAddress) (c : Assigned) (id_is : id.0 ≡ view.own) (are : AreOthers view others) where
  pub none_stays : IsLeastFound own c None → (x : ℕ) → ¬ Stays view own c list x
  none_stays none x stays = none x stays.least.own_is stays.least.inside

  pub above_goes : (least : ℕ) → IsLeastOwn own c least → HasAddressAbove others.taken.items id least → (x : ℕ) → ¬ Stays view own c list x
  above_goes least is above x stays =
      let same = one_least own c least x is stays.least in
      let (node, taken, greater) = above_from view others are id x id_is (subst (HasAddressAbove others.taken.items id) same above) in
      stays.not_yielded node taken (subst (λ (n : ℕ). n < node) id_is greater)

  pub come_goes : (least : ℕ) → IsLeastOwn own c least → HasCome list least → (x : ℕ) → ¬ Stays view own c list x
  come_goes least is come x stays =
      let same = one_least own c least x is stays.least in
      stays.new (subst (HasCome list) same come)

  pub stays_so : (least : ℕ) → IsLeastOwn own c least → ¬ HasAddressAbove others.taken.items id least → ¬ HasCome list least → Stays view own c list least
  stays_so least is not_above new = record {
    least = is;
    not_yielded = λ node taken greater. not_above (above_there view others are id node least taken (subst (λ (n : ℕ). n < node) (sym id_is) greater));
    new = new;
  }
