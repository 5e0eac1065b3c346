-- What one more item adds to what is kept.
use Rattle.hn_base.proofs.Names.{◌≡◌, ◌↔◌, ℕ, ◌⊎◌, inl, inr, ⊎_elim, Bool, IsTrue, true, false, List, [], ◌∷◌, ◌++◌, Option, Some, None, option_to_list, Result, Ok, Err, Contains, refl, sym, ap}
use Rattle.hn_base.proofs.Names.{subst, ◌∙◌, append_assoc, OnOk, option_map, option_or, filter_map, Contains-append_left, Contains-append_right, Contains-append_cases, filter_map-append}
use Rattle.hn_data.proofs.Names.{Contains-head, filter_map-push, PlainTlv, PlainItem, PlainCaps, External, IsItem, IsReading, AreItems, HasItems, first_of, version_of, delegation_of, external_of}
use Rattle.hn_data.proofs.Names.{IsDelegatedIn, IsConnected, AreInsideInOrder, Delegation}
use Rattle.std.proofs.Common.{◌||◌, append-nil}
use Rattle.hn_data.specs.Said.{caps_of}
use Rattle.hn_data.proofs.OneReading.{HasOneReading}
use Rattle.hn_base.proofs.AscendingLists.{Contains-one}

-- what follows from two facts after an `Ok`
pub on_ok_both : {T E P Q R : Type 0} (r : Result T E) → (P → Q → R) → OnOk r P → OnOk r Q → OnOk r R
on_ok_both (Ok x) f p q = f p q
on_ok_both (Err e) f p q = tt

-- ---- readings

pub reads_one : (tlv : PlainTlv) (item : PlainItem) → IsItem tlv item → IsReading (tlv ∷ []) (item ∷ [])
reads_one tlv item h = inl (item, [], h, refl, refl)

pub reads_none : (tlv : PlainTlv) → ((item : PlainItem) → ¬ (IsItem tlv item)) → IsReading (tlv ∷ []) []
reads_none tlv h = inr (h, refl)

pub readings_join : (a b : List PlainTlv) (x y : List PlainItem) → IsReading a x → IsReading b y → IsReading (a ++ b) (x ++ y)
readings_join [] b x y p q = subst (λ (xs : List PlainItem). IsReading b (xs ++ y)) (sym p) q
readings_join (tlv ∷ a) b x y (inl p) q = inl (p.0, p.1 ++ y, p.2, ap (λ (xs : List PlainItem). xs ++ y) p.3, readings_join a b p.1 y p.4 q)
readings_join (tlv ∷ a) b x y (inr p) q = inr (p.0, readings_join a b x y p.1 q)

-- ---- lists

pub contains_append : {A : Type 0} (xs ys : List A) (x : A) → Contains (xs ++ ys) x ↔ (Contains xs x ⊎ Contains ys x)
contains_append xs ys x = (Contains-append_cases xs ys x, λ h. ⊎_elim (Contains-append_left xs ys x) (Contains-append_right xs ys x) h)

-- a list of what items say, with what one more says
pub list_more : {A : Type 0} (f : PlainItem → Option A) (items : List PlainItem) (item : PlainItem) (old new : List A) (said : Option A)
    → old ≡ filter_map f items → said ≡ f item → new ≡ old ++ option_to_list said → new ≡ filter_map f (items ++ item ∷ [])
list_more f items item old new said was is more = more ∙ ap (λ ys. old ++ option_to_list ys) is ∙ ap (λ xs. xs ++ option_to_list (f item)) was ∙ sym (filter_map-push f items item)

-- the same of the set of what items say
pub set_more : {A : Type 0} (f : PlainItem → Option A) (items : List PlainItem) (item : PlainItem) (old new : List A) (said : Option A)
    → ((a : A) → Contains old a ↔ Contains (filter_map f items) a) → said ≡ f item → new ≡ old ++ option_to_list said
    → (a : A) → Contains new a ↔ Contains (filter_map f (items ++ item ∷ [])) a
set_more {A} f items item old new said was is more a =
    let last = option_to_list (f item) in
    let now : new ≡ old ++ last = more ∙ ap (λ ys. old ++ option_to_list ys) is in
    let both = contains_append old last a in
    let other = contains_append (filter_map f items) last a in (
      λ h. subst (λ (xs : List A). Contains xs a) (sym (filter_map-push f items item)) (other.1 (⊎_elim (λ g. inl ((was a).0 g)) (λ g. inr g) (both.0 (subst (λ (xs : List A). Contains xs a) now h)))),
      λ h. subst (λ (xs : List A). Contains xs a) (sym now) (both.1 (⊎_elim (λ g. inl ((was a).1 g)) (λ g. inr g) (other.0 (subst (λ (xs : List A). Contains xs a) (filter_map-push f items item) h)))),
    )

-- ---- the version: the first one

first_append : {A : Type 0} (xs ys : List A) → first_of (xs ++ ys) ≡ option_or (first_of xs) (first_of ys)
first_append [] ys = refl
first_append (x ∷ xs) ys = refl

first_said : {A : Type 0} (o : Option A) → first_of (option_to_list o) ≡ o
first_said None = refl
first_said (Some x) = refl

mapped_or : {A B : Type 0} (f : A → B) (a b : Option A) → option_map f (option_or a b) ≡ option_or (option_map f a) (option_map f b)
mapped_or f None b = refl
mapped_or f (Some x) b = refl

pub version_more : {C : Type 0} (plain : C → PlainCaps) (items : List PlainItem) (item : PlainItem) (old said : Option C)
    → option_map plain old ≡ version_of items → option_map plain said ≡ caps_of item → option_map plain (option_or old said) ≡ version_of (items ++ item ∷ [])
version_more plain items item old said was is =
    mapped_or plain old said ∙ ap (λ a. option_or a (option_map plain said)) was ∙ ap (option_or (version_of items)) (is ∙ sym (first_said (caps_of item)))
    ∙ sym (first_append (filter_map caps_of items) (option_to_list (caps_of item))) ∙ ap first_of (sym (filter_map-push caps_of items item))

-- ---- External-Connections

connected_append : (xs ys : List PlainItem) → IsConnected (xs ++ ys) ↔ (IsConnected xs ⊎ IsConnected ys)
connected_append xs ys = (
  λ h. ⊎_elim (λ g. inl (h.0, g)) (λ g. inr (h.0, g)) (Contains-append_cases xs ys (External h.0) h.1),
  λ h. ⊎_elim (λ g. (g.0, Contains-append_left xs ys (External g.0) g.1)) (λ g. (g.0, Contains-append_right xs ys (External g.0) g.1)) h,
)

either : (a b : Bool) → IsTrue (a || b) ↔ (IsTrue a ⊎ IsTrue b)
either true b = (λ h. inl refl, λ h. refl)
either false b = (λ h. inr h, λ h. ⊎_elim (λ no. absurd (cc)) (λ g. g) h)

pub external_more : (items : List PlainItem) (item : PlainItem) (old said : Bool)
    → (IsTrue old ↔ IsConnected items) → (IsTrue said ↔ IsConnected (item ∷ [])) → IsTrue (old || said) ↔ IsConnected (items ++ item ∷ [])
external_more items item old said was is =
    let parts = connected_append items (item ∷ []) in
    let one = either old said in (
      λ h. parts.1 (⊎_elim (λ g. inl (was.0 g)) (λ g. inr (is.0 g)) (one.0 h)),
      λ h. one.1 (⊎_elim (λ g. inl (was.1 g)) (λ g. inr (is.1 g)) (parts.0 h)),
    )

-- ---- delegated prefixes

delegated_append : (xs ys : List PlainItem) (d : Delegation) → IsDelegatedIn (xs ++ ys) d ↔ (IsDelegatedIn xs d ⊎ IsDelegatedIn ys d)
delegated_append xs ys d = (
  λ h. ⊎_elim (λ g. inl (record { subs = h.subs; external = g; inside = h.inside }))
      (λ g. inr (record { subs = h.subs; external = g; inside = h.inside }))
      (Contains-append_cases xs ys (External h.subs) h.external),
  λ h. ⊎_elim (λ g. record { subs = g.subs; external = Contains-append_left xs ys (External g.subs) g.external; inside = g.inside })
      (λ g. record { subs = g.subs; external = Contains-append_right xs ys (External g.subs) g.external; inside = g.inside })
      h,
)

pub delegations_more : (items : List PlainItem) (item : PlainItem) (old new : List Delegation)
    → ((d : Delegation) → Contains old d ↔ IsDelegatedIn items d)
    → ((d : Delegation) → Contains new d ↔ (Contains old d ⊎ IsDelegatedIn (item ∷ []) d))
    → (d : Delegation) → Contains new d ↔ IsDelegatedIn (items ++ item ∷ []) d
delegations_more items item old new was more d =
    let parts = delegated_append items (item ∷ []) d in (
      λ h. parts.1 (⊎_elim (λ g. inl ((was d).0 g)) (λ g. inr g) ((more d).0 h)),
      λ h. (more d).1 (⊎_elim (λ g. inl ((was d).1 g)) (λ g. inr g) (parts.0 h)),
    )

same_subs : (a b : List ℕ) → External a ≡ External b → a ≡ b
same_subs a b e = cc

-- an External-Connection has those of its items inside
delegates_inner : (subs : List ℕ) (inner : List PlainItem) (d : Delegation)
    → HasOneReading subs → AreItems subs inner → Contains (filter_map delegation_of inner) d ↔ IsDelegatedIn (External subs ∷ []) d
delegates_inner subs inner d one are = (
  λ h. record { subs = subs; external = Contains-head (External subs) []; inside = (inner, are, h) },
  λ h. let same : subs ≡ h.subs = same_subs subs h.subs (Contains-one (External subs) (External h.subs) h.external) in
      let are' : AreItems subs h.inside.0 = subst (λ (b : List ℕ). AreItems b h.inside.0) (sym same) h.inside.1 in
      subst (λ (xs : List PlainItem). Contains (filter_map delegation_of xs) d) (one h.inside.0 inner are' are) h.inside.2,
)

-- a list with the delegated prefixes inside an External-Connection
pub inner_more : (subs : List ℕ) (old new : List Delegation)
    → HasOneReading subs → HasItems subs (λ inner. new ≡ old ++ filter_map delegation_of inner)
    → (d : Delegation) → Contains new d ↔ (Contains old d ⊎ IsDelegatedIn (External subs ∷ []) d)
inner_more subs old new one r d =
    let said = filter_map delegation_of r.0 in
    let parts = contains_append old said d in
    let inside = delegates_inner subs r.0 d one r.1 in (
      λ h. ⊎_elim (λ g. inl g) (λ g. inr (inside.0 g)) (parts.0 (subst (λ (xs : List Delegation). Contains xs d) r.2 h)),
      λ h. subst (λ (xs : List Delegation). Contains xs d) (sym r.2) (parts.1 (⊎_elim (λ g. inl g) (λ g. inr (inside.1 g)) h)),
    )

-- ---- delegated prefixes in their order

inside_append : (a b : List (List ℕ)) (x y : List Delegation) → AreInsideInOrder a x → AreInsideInOrder b y → AreInsideInOrder (a ++ b) (x ++ y)
inside_append [] b x y h k = subst (λ (xs : List Delegation). AreInsideInOrder b (xs ++ y)) (sym h) k
inside_append (subs ∷ a) b x y (here, rest, items, others, is) k =
    (here, rest ++ y, items, inside_append a b rest y others k, ap (λ (xs : List Delegation). xs ++ y) is ∙ append_assoc here rest y)

-- those of items, and of one more
pub in_order_more : (items : List PlainItem) (item : PlainItem) (old new more : List Delegation) → AreInsideInOrder (filter_map external_of items) old
    → AreInsideInOrder (filter_map external_of (item ∷ [])) more → new ≡ old ++ more → AreInsideInOrder (filter_map external_of (items ++ item ∷ [])) new
in_order_more items item old new more was last is =
    subst (λ (xs : List Delegation). AreInsideInOrder (filter_map external_of (items ++ item ∷ [])) xs) (sym is)
    (subst (λ (subs : List (List ℕ)). AreInsideInOrder subs (old ++ more)) (sym (filter_map-append external_of items (item ∷ [])))
    (inside_append (filter_map external_of items) (filter_map external_of (item ∷ [])) old more was last))

-- an External-Connection has those of its items inside
pub inner_in_order : (subs : List ℕ) (old new : List Delegation) → HasItems subs (λ inner. new ≡ old ++ filter_map delegation_of inner)
    → (more : List Delegation) × AreInsideInOrder (subs ∷ []) more × (new ≡ old ++ more)
inner_in_order subs old new (inner, are, is) =
    let here = filter_map delegation_of inner in
    (here, (here, [], (inner, are, refl), refl, sym (append-nil here)), is)
