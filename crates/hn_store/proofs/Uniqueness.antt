-- The laws of the table and of what comes of a node state.
use Rattle.hn_base.proofs.Names.{◌≡◌, ◌≢◌, ◌<◌, ◌∙◌, ℕ, inl, inr, Bool, true, false, cond, List, [], ◌∷◌, ◌++◌, filter, Option, Some, None, refl, sym, ap, subst, arith, get_or, find, ◌==◌, option_map}
use Rattle.hn_base.proofs.Names.{AllByRecursion, eq-eqb, ne_eqb, eqb-true, eqb-false, ltb-true, lt-ltb, cases_lt, All-from_recursion}
use Rattle.hn_store.proofs.Names.{nat_lt, Stored, HeldNode, OwnLeaf, Took, Kept, Renumbered, Ask, Stale, BadHash, BadBody, TooLong, Full, Own, Nodes, held, entry, put, PlainState, stored_from}
use Rattle.hn_store.proofs.Names.{stored_renumbered, entries_changed, entries_after, find-none}
use Rattle.hn_store.specs.Acceptance.{IsAnswer}
use Rattle.hn_store.specs.Laws.{PutChangesOneNode, AcceptanceIsUnique, OthersStay, OwnStays}
use Rattle.hn_base.proofs.FirstCause.{both_lines}
use Rattle.hn_base.proofs.PassingElements.{find-filter}

-- ---- the first line that holds is one

one : (took a b : Took) → a ≡ took → b ≡ took → a ≡ b
one took a b e f = e ∙ sym f

pub one_answer : (nodes : Nodes) (own : OwnLeaf) (s : PlainState) (a b : Took) → IsAnswer nodes own s a → IsAnswer nodes own s b → a ≡ b
unfolding IsAnswer
one_answer nodes own s a b x y =
    both_lines x y (one Stale a b) (λ x y. both_lines x y (one Full a b) (λ x y. both_lines x y (one TooLong a b) (λ x y. both_lines x y (one BadHash a b) (λ x y.
    both_lines x y (one Own a b) (λ x y. both_lines x y (one BadBody a b) (λ x y. both_lines x y (one Kept a b) (λ x y. both_lines x y (one Ask a b) (one Renumbered a b))))))))

pub acceptance_unique : AcceptanceIsUnique
acceptance_unique nodes own s now m n took other a b =
    let same = one_answer nodes own s took other a.answer b.answer in
    let after = λ (t : Took). let e : Nodes = record nodes { entries = entries_after nodes.entries s now t } in e in
    (a.after ∙ ap after same ∙ sym b.after, same)

-- ---- what a put entry changes

none_in_filter : {X : Type 0} (t p : X → Bool) (fails : (x : X) → p x ≡ true → t x ≡ false) (xs : List X) → AllByRecursion (λ x. t x ≡ false) (filter p xs)
none_in_filter t p fails [] = tt
none_in_filter t p fails (x ∷ xs) =
    elim (p x) as (λ b. p x ≡ b → AllByRecursion (λ y. t y ≡ false) (cond b (x ∷ filter p xs) (filter p xs))) [
      | true ↦ λ here. (fails x here, none_in_filter t p fails xs)
      | false ↦ λ here. none_in_filter t p fails xs
    ] refl

find_after : {X : Type 0} (t : X → Bool) (xs ys : List X) → AllByRecursion (λ x. t x ≡ false) xs → find t (xs ++ ys) ≡ find t ys
find_after t [] ys none = refl
find_after t (x ∷ xs) ys none = rw none.0 (find_after t xs ys none.1)

find_before : {X : Type 0} (t : X → Bool) (xs ys : List X) → AllByRecursion (λ x. t x ≡ false) ys → find t (xs ++ ys) ≡ find t xs
find_before t [] ys none = find-none t ys (All-from_recursion (λ x. t x ≡ false) ys none)
find_before t (x ∷ xs) ys none = ap (cond (t x) (Some x)) (find_before t xs ys none)

abbrev is_of : ℕ → HeldNode → Bool
is_of id node = node.id.0 == id

abbrev is_below : ℕ → HeldNode → Bool
is_below id node = nat_lt node.id.0 id

abbrev is_above : ℕ → HeldNode → Bool
is_above id node = nat_lt id node.id.0

-- a node below the one that was put
found_below : (entries : List HeldNode) (id other : ℕ) (stored : Stored) → other < id → find (is_of other) (put id stored entries) ≡ find (is_of other) entries
found_below entries id other stored lt =
    find_before (is_of other) (filter (is_below id) entries) (entry id stored ∷ filter (is_above id) entries)
    (ne_eqb id other (λ same. omega arith), none_in_filter (is_of other) (is_above id) (λ x up. ne_eqb x.id.0 other (λ same. let more = ltb-true id x.id.0 up in omega arith)) entries)
    ∙ find-filter (is_of other) (is_below id) entries (λ k d within is. let same = eqb-true (get_or entries k d).id.0 other is in lt-ltb (get_or entries k d).id.0 id (omega arith))

-- a node above it
found_above : (entries : List HeldNode) (id other : ℕ) (stored : Stored) → id < other → find (is_of other) (put id stored entries) ≡ find (is_of other) entries
found_above entries id other stored lt =
    let apart : (id == other) ≡ false = ne_eqb id other (λ same. omega arith) in
    find_after (is_of other) (filter (is_below id) entries) (entry id stored ∷ filter (is_above id) entries)
    (none_in_filter (is_of other) (is_below id) (λ x down. ne_eqb x.id.0 other (λ same. let less = ltb-true x.id.0 id down in omega arith)) entries)
    ∙ ap (λ (b : Bool). cond b (Some (entry id stored)) (find (is_of other) (filter (is_above id) entries))) apart
    ∙ find-filter (is_of other) (is_above id) entries (λ k d within is. let same = eqb-true (get_or entries k d).id.0 other is in lt-ltb id (get_or entries k d).id.0 (omega arith))

-- that node
found_put : (entries : List HeldNode) (id : ℕ) (stored : Stored) → find (is_of id) (put id stored entries) ≡ Some (entry id stored)
found_put entries id stored =
    find_after (is_of id) (filter (is_below id) entries) (entry id stored ∷ filter (is_above id) entries)
    (none_in_filter (is_of id) (is_below id) (λ x down. ne_eqb x.id.0 id (λ same. let less = ltb-true x.id.0 id down in omega arith)) entries)
    ∙ ap (λ (b : Bool). cond b (Some (entry id stored)) (find (is_of id) (filter (is_above id) entries))) (eq-eqb id id refl)

stored_in : Option HeldNode → Option Stored
stored_in found = option_map (λ node. node.stored) found

pub held-put_other : (entries : List HeldNode) (id other : ℕ) (stored : Stored) → other ≢ id → held (put id stored entries) other ≡ held entries other
unfolding stored_in
held-put_other entries id other stored apart =
    elim (cases_lt other id) [
      | inl lt ↦ ap stored_in (found_below entries id other stored lt)
      | inr ge ↦ ap stored_in (found_above entries id other stored (omega arith))
    ]

pub put_changes_one : PutChangesOneNode
unfolding stored_in
put_changes_one entries id other stored =
    elim (other == id) as (λ b. (other == id) ≡ b → held (put id stored entries) other ≡ cond b (Some stored) (held entries other)) [
      | true ↦ λ is. let same = eqb-true other id is in subst (λ (q : ℕ). held (put id stored entries) q ≡ Some stored) (sym same) (ap stored_in (found_put entries id stored))
      | false ↦ λ is. held-put_other entries id other stored (eqb-false other id is)
    ] refl

-- ---- what a node state does not change

others_changed : (entries : List HeldNode) (s : PlainState) (now id : ℕ) (before : Option Stored) → id ≢ s.node
    → held (entries_changed s.node (stored_renumbered s now) before entries) id ≡ held entries id
others_changed entries s now id None apart = refl
others_changed entries s now id (Some stored) apart = held-put_other entries s.node id (stored_renumbered s now stored) apart

others_after : (entries : List HeldNode) (s : PlainState) (now id : ℕ) (took : Took) → id ≢ s.node → held (entries_after entries s now took) id ≡ held entries id
others_after entries s now id Kept apart = held-put_other entries s.node id (stored_from s now (held entries s.node)) apart
others_after entries s now id Renumbered apart = others_changed entries s now id (held entries s.node) apart
others_after entries s now id Ask apart = refl
others_after entries s now id Stale apart = refl
others_after entries s now id BadHash apart = refl
others_after entries s now id BadBody apart = refl
others_after entries s now id TooLong apart = refl
others_after entries s now id Full apart = refl
others_after entries s now id Own apart = refl

pub others_as_before : OthersStay
others_as_before nodes own s now next took id accepts apart =
    ap (λ (n : Nodes). held n.entries id) accepts.after ∙ others_after nodes.entries s now id took apart

stays : (entries : List HeldNode) (s : PlainState) (now : ℕ) (took line : Took) → entries_after entries s now line ≡ entries → took ≡ line → entries_after entries s now took ≡ entries
stays entries s now took line same is = subst (λ (t : Took). entries_after entries s now t ≡ entries) (sym is) same

-- what comes of a state of the own identifier is found before its data are held
own_after : (nodes : Nodes) (own : OwnLeaf) (s : PlainState) (now : ℕ) (took : Took) → s.node ≡ own.id.0 → IsAnswer nodes own s took → entries_after nodes.entries s now took ≡ nodes.entries
unfolding IsAnswer
own_after nodes own s now took own_is (inl x) = stays nodes.entries s now took Stale refl x.1
own_after nodes own s now took own_is (inr (_, inl x)) = stays nodes.entries s now took Full refl x.1
own_after nodes own s now took own_is (inr (_, inr (_, inl x))) = stays nodes.entries s now took TooLong refl x.1
own_after nodes own s now took own_is (inr (_, inr (_, inr (_, inl x)))) = stays nodes.entries s now took BadHash refl x.1
own_after nodes own s now took own_is (inr (_, inr (_, inr (_, inr (_, inl x))))) = stays nodes.entries s now took Own refl x.1
own_after nodes own s now took own_is (inr (_, inr (_, inr (_, inr (_, inr (another, later)))))) = absurd (another own_is)

pub own_as_before : OwnStays
own_as_before nodes own s now next took accepts =
    elim (own.id.0 == s.node) as (λ b. (own.id.0 == s.node) ≡ b → held next.entries own.id.0 ≡ held nodes.entries own.id.0) [
      | true ↦ λ is.
          let same = sym (eqb-true own.id.0 s.node is) in
          ap (λ (n : Nodes). held n.entries own.id.0) accepts.after ∙ ap (λ (es : List HeldNode). held es own.id.0) (own_after nodes own s now took same accepts.answer)
      | false ↦ λ is. others_as_before nodes own s now next took own.id.0 accepts (eqb-false own.id.0 s.node is)
    ] refl
