-- What comes of a true state of a node at the router that asked: its node is repaired, or its data are asked for.
use Rattle.hn_base.proofs.Names.{◌≡◌, ◌≢◌, ◌∙◌, ◌⊎◌, ◌<◌, ◌≤◌, ℕ, Bool, true, false, cond, List, [], ◌∷◌, length, map, Option, Some, None, sym, ap, subst, refl, inl, inr, arith, option_map, cases_eq}
use Rattle.hn_base.proofs.Names.{eq-eqb, eqb-true, ne_eqb, cond-false, All-contains, LineElse, IsOlder}
use Rattle.hn_sync.proofs.Names.{◌==◌, find, NodeId, Entry, hash_of, Part, State, sent_age, sent_data, PlainState, known_of, IsStale, entries_after, PutChangesOneNode, HeldIsOfAnEntry, loss_marked}
use Rattle.hn_sync.proofs.Names.{Nodes, held, IsTable, IsIntact, OwnLeaf, Took, HeldNode, Stored, HasTlvs, IsRepaired}
use Rattle.hn_store.specs.Acceptance.{held_part, CarriesData, HasWrongHash, IsNews, IsAnswer, stored_from, stored_renumbered, entries_changed, Accepts}
use Rattle.hn_store.specs.Loss.{is_among, lost_after, marked_node}
use Rattle.hn_store.specs.Nodes.{put, stored_part}
use Rattle.hn_store.specs.declared.state.Took.TheVariants as took
use Rattle.hn_sync.proofs.NodeStatesSaid.{IsEntry}

-- ---- two texts are one, or not

pub one_or_not : (xs ys : List ℕ) → (xs ≡ ys) ⊎ (xs ≢ ys)
one_or_not [] [] = inl refl
one_or_not [] (y ∷ ys) = inr (λ e. absurd (cc))
one_or_not (x ∷ xs) [] = inr (λ e. absurd (cc))
one_or_not (x ∷ xs) (y ∷ ys) = by_parts (cases_eq x y) (one_or_not xs ys)
  where
    by_parts : (x ≡ y) ⊎ (x ≢ y) → (xs ≡ ys) ⊎ (xs ≢ ys) → (x ∷ xs ≡ y ∷ ys) ⊎ (x ∷ xs ≢ y ∷ ys)
    by_parts (inl h) (inl k) = inl (λ i. h i ∷ k i)
    by_parts (inl h) (inr k) = inr (λ e. k (let rest : xs ≡ ys = cc in rest))
    by_parts (inr h) k = inr (λ e. h (let first : x ≡ y = cc in first))

-- ---- a state that is said

-- the state of a node as it arrives, with its data or without
abbrev pub state_said : Bool → Entry → PlainState
state_said with_data n = record { node = n.id.0; number = n.number; age = sent_age n.age; hash = hash_of n.body; body = sent_data with_data n.body }

-- its data are short, have the hash that it says, and are a list of TLVs
pub said_short : (with_data : Bool) (n : Entry) → IsEntry n → length (sent_data with_data n.body) ≤ 60000
said_short true n fits = fits.short
said_short false n fits = omega arith

pub said_right : (with_data : Bool) (n : Entry) → CarriesData (state_said with_data n) → hash_of (sent_data with_data n.body) ≡ hash_of n.body
said_right true n h = refl
said_right false n (inl h) = absurd (h refl)
said_right false n (inr h) = sym h

said_list : (with_data : Bool) (n : Entry) → IsEntry n → HasTlvs (sent_data with_data n.body)
said_list true n fits = fits.list
said_list false n fits = ([], refl)

-- ---- marks

abbrev pub held_after : List NodeId → ℕ → ℕ → Stored → Stored
held_after reach now id st = record st { lost = lost_after (is_among reach id) now st.lost }

pub held_marked : (reach : List NodeId) (now : ℕ) (entries : List HeldNode) (id : ℕ)
    → held (map (marked_node reach now) entries) id ≡ option_map (held_after reach now id) (held entries id)
held_marked reach now [] id = refl
held_marked reach now (node ∷ entries) id = by_test (node.id.0 == id) refl (held_marked reach now entries id)
  where
    by_test : (b : Bool) → (node.id.0 == id) ≡ b → held (map (marked_node reach now) entries) id ≡ option_map (held_after reach now id) (held entries id)
        → option_map (λ x. x.stored) (cond b (Some (marked_node reach now node)) (find (λ x. x.id.0 == id) (map (marked_node reach now) entries)))
        ≡ option_map (held_after reach now id) (option_map (λ x. x.stored) (cond b (Some node) (find (λ x. x.id.0 == id) entries)))
    by_test true is rest = ap (λ (k : ℕ). Some (record node.stored { lost = lost_after (is_among reach k) now node.stored.lost })) (eqb-true node.id.0 id is)
    by_test false is rest = rest

module _ (before : State) where
  -- what is held of a node is what was held before, but for its moment of loss
  pub data AsBefore (s : State) (n : Entry) : Type 0 where
    NoneHeld : (was : held before.table.entries n.id.0 ≡ None) (is : held s.table.entries n.id.0 ≡ None) → AsBefore s n
    SomeHeld : (stored : Stored) (was : held before.table.entries n.id.0 ≡ Some stored) (lost : Option ℕ) (is : held s.table.entries n.id.0 ≡ Some (record stored { lost = lost })) → AsBefore s n

  pub before_self : (n : Entry) → AsBefore before n
  before_self n = by_held (held before.table.entries n.id.0) refl
    where
      by_held : (o : Option Stored) → held before.table.entries n.id.0 ≡ o → AsBefore before n
      by_held None is = NoneHeld is is
      by_held (Some stored) is = SomeHeld stored is stored.lost is

  pub before_same : (s t : State) (n : Entry) → held t.table.entries n.id.0 ≡ held s.table.entries n.id.0 → AsBefore s n → AsBefore t n
  before_same s t n same (NoneHeld was is) = NoneHeld was (same ∙ is)
  before_same s t n same (SomeHeld stored was lost is) = SomeHeld stored was lost (same ∙ is)

  pub settled_same : (s t : State) (n : Entry) → held t.table.entries n.id.0 ≡ held s.table.entries n.id.0 → IsRepaired before s n → IsRepaired before t n
  settled_same s t n same (inl h) = inl (record { stored = h.stored; is_held = same ∙ h.is_held; number = h.number; body = h.body })
  settled_same s t n same (inr (inl h)) = inr (inl (record { stored = h.stored; was_held = h.was_held; stale = h.stale; lost = h.lost; is_held = same ∙ h.is_held }))
  settled_same s t n same (inr (inr h)) = inr (inr h)

  pub before_marked : (reach : List NodeId) (s t : State) (n : Entry) → t.table ≡ loss_marked reach s.moment s.table → AsBefore s n → AsBefore t n
  before_marked reach s t n table (NoneHeld was is) =
      NoneHeld was (ap (λ (x : Nodes). held x.entries n.id.0) table ∙ (held_marked reach s.moment s.table.entries n.id.0 ∙ ap (option_map (held_after reach s.moment n.id.0)) is))
  before_marked reach s t n table (SomeHeld stored was lost is) =
      SomeHeld stored was (lost_after (is_among reach n.id.0) s.moment lost)
      (ap (λ (x : Nodes). held x.entries n.id.0) table ∙ (held_marked reach s.moment s.table.entries n.id.0 ∙ ap (option_map (held_after reach s.moment n.id.0)) is))

  pub settled_marked : (reach : List NodeId) (s t : State) (n : Entry) → t.table ≡ loss_marked reach s.moment s.table → IsRepaired before s n → IsRepaired before t n
  settled_marked reach s t n table (inl h) = inl (record {
    stored = held_after reach s.moment n.id.0 h.stored;
    is_held = ap (λ (x : Nodes). held x.entries n.id.0) table ∙ (held_marked reach s.moment s.table.entries n.id.0 ∙ ap (option_map (held_after reach s.moment n.id.0)) h.is_held);
    number = h.number;
    body = h.body;
  })
  settled_marked reach s t n table (inr (inl h)) = inr (inl (record {
    stored = h.stored;
    was_held = h.was_held;
    stale = h.stale;
    lost = lost_after (is_among reach n.id.0) s.moment h.lost;
    is_held = ap (λ (x : Nodes). held x.entries n.id.0) table ∙ (held_marked reach s.moment s.table.entries n.id.0 ∙ ap (option_map (held_after reach s.moment n.id.0)) h.is_held);
  }))
  settled_marked reach s t n table (inr (inr h)) = inr (inr h)

  -- ---- a state of the node itself

  module _ (put_one : PutChangesOneNode) (of_entry : HeldIsOfAnEntry) (n : Entry) (fits : IsEntry n) (with_data : Bool) (s t : State) (own : OwnLeaf) (now : ℕ) (next : Nodes) (how : Took)
      (accepts : Accepts s.table own (state_said with_data n) now next how) (is_next : t.table ≡ next) (other : n.id.0 ≢ own.id.0) where
    known_is : known_of s.table.entries own n.id.0 ≡ held_part s.table.entries n.id.0
    known_is = cond-false (n.id.0 == own.id.0) _ _ (ne_eqb n.id.0 own.id.0 other)

    held_next : held t.table.entries n.id.0 ≡ held (entries_after s.table.entries (state_said with_data n) now how) n.id.0
    held_next = ap (λ (x : Nodes). held x.entries n.id.0) (is_next ∙ accepts.after)

    same_after : how ≡ took.Stale → held t.table.entries n.id.0 ≡ held s.table.entries n.id.0
    same_after stale = held_next ∙ ap (λ (h : Took). held (entries_after s.table.entries (state_said with_data n) now h) n.id.0) stale

    is_put : (stored : Stored) → held (put n.id.0 stored s.table.entries) n.id.0 ≡ Some stored
    is_put stored = put_one s.table.entries n.id.0 n.id.0 stored ∙ ap (λ (b : Bool). cond b (Some stored) (held s.table.entries n.id.0)) (eq-eqb n.id.0 n.id.0 refl)

    stale_is : (part : Part) → held_part s.table.entries n.id.0 ≡ Some part → IsStale (Some part) (state_said with_data n) → how ≡ took.Stale
    unfolding IsAnswer
    stale_is part is stale = by_line accepts.answer
      where
        by_line : IsAnswer s.table own (state_said with_data n) how → how ≡ took.Stale
        by_line (inl h) = h.1
        by_line (inr h) = absurd (h.0 (subst (λ (o : Option Part). IsStale o (state_said with_data n)) (sym (known_is ∙ is)) stale))

    not_older : (x y : ℕ) → x ≡ y → ¬ (IsOlder x y)
    not_older x y same older = absurd (omega (arith, same, older))

    -- where the node was repaired, it stays so
    pub stays_settled : IsTable s.table → IsRepaired before s n → IsRepaired before t n
    stays_settled table (inl h) =
        let node = of_entry s.table.entries n.id.0 h.stored h.is_held in
        let intact = subst IsIntact node.3 (All-contains (λ (x : HeldNode). IsIntact x.stored) s.table.entries node.0 table.intact node.1) in
        let hash : h.stored.hash ≡ hash_of n.body = intact.hashed ∙ ap hash_of h.body in
        let stale = stale_is (stored_part h.stored) (ap (option_map stored_part) h.is_held) (not_older h.stored.number n.number h.number, λ k. k.1 hash) in
        settled_same s t n (same_after stale) (inl h)
    stays_settled table (inr (inl h)) =
        settled_same s t n (same_after (stale_is (stored_part h.stored) (ap (option_map stored_part) h.is_held) h.stale)) (inr (inl h))
    stays_settled table (inr (inr h)) = inr (inr h)

    -- ---- the lines of the acceptance

    has_data : with_data ≡ true → CarriesData (state_said with_data n)
    has_data is = subst (λ (b : Bool). CarriesData (state_said b n)) (sym is) (by_body n.body)
      where
        by_body : (body : List ℕ) → (body ≢ []) ⊎ (hash_of body ≡ hash_of [])
        by_body [] = inr refl
        by_body (x ∷ xs) = inl (λ e. absurd (cc))

    abbrev Last : Type 0
    Last = LineElse (CarriesData (state_said with_data n)) (how ≡ took.Kept) (LineElse (IsNews (known_of s.table.entries own n.id.0) (state_said with_data n)) (how ≡ took.Ask) (how ≡ took.Renumbered))

    last_lines : LineElse (60000 < length (sent_data with_data n.body)) (how ≡ took.TooLong)
        (LineElse (HasWrongHash (state_said with_data n)) (how ≡ took.BadHash)
        (LineElse (n.id.0 ≡ own.id.0) (how ≡ took.Own)
        (LineElse (CarriesData (state_said with_data n) × ¬ (HasTlvs (sent_data with_data n.body))) (how ≡ took.BadBody) Last))) → Last
    last_lines (inl h) = absurd (let long = h.0 in let less = said_short with_data n fits in omega arith)
    last_lines (inr (h, inl k)) = absurd (k.0.1 (said_right with_data n k.0.0))
    last_lines (inr (h, inr (k, inl l))) = absurd (other l.0)
    last_lines (inr (h, inr (k, inr (l, inl m)))) = absurd (m.0.1 (said_list with_data n fits))
    last_lines (inr (h, inr (k, inr (l, inr (m, rest))))) = rest

    abbrev Outcome : Type 0
    Outcome = IsRepaired before t n ⊎ (AsBefore t n × (how ≡ took.Ask) × (with_data ≡ false))

    keeps_data : CarriesData (state_said with_data n) → how ≡ took.Kept → IsRepaired before t n
    keeps_data carries is = by_data with_data refl carries
      where
        stored : Stored
        stored = stored_from (state_said with_data n) now (held s.table.entries n.id.0)

        holds : held t.table.entries n.id.0 ≡ Some stored
        holds = held_next ∙ (ap (λ (h : Took). held (entries_after s.table.entries (state_said with_data n) now h) n.id.0) is ∙ is_put stored)

        by_body : (body : List ℕ) → n.body ≡ body → hash_of n.body ≡ hash_of [] → with_data ≡ false → IsRepaired before t n
        by_body [] empty one none = inl (record { stored = stored; is_held = holds; number = refl; body = ap (λ (b : Bool). sent_data b n.body) none ∙ sym empty })
        by_body (x ∷ xs) some one none = inr (inr (record {
          other = [];
          was_held = inr refl;
          collide = record { differ = (λ e. absurd (let clash : x ∷ xs ≡ [] = sym some ∙ e in cc)); one_hash = one };
        }))

        by_data : (b : Bool) → with_data ≡ b → CarriesData (state_said with_data n) → IsRepaired before t n
        by_data true all c = inl (record { stored = stored; is_held = holds; number = refl; body = ap (λ (b : Bool). sent_data b n.body) all })
        by_data false none (inl c) = absurd (c (ap (λ (b : Bool). sent_data b n.body) none))
        by_data false none (inr c) = by_body n.body refl c none

    asks_again : how ≡ took.Ask → ¬ (CarriesData (state_said with_data n)) → AsBefore s n → Outcome
    asks_again is none h = by_data with_data refl
      where
        same : held t.table.entries n.id.0 ≡ held s.table.entries n.id.0
        same = held_next ∙ ap (λ (h : Took). held (entries_after s.table.entries (state_said with_data n) now h) n.id.0) is

        by_data : (b : Bool) → with_data ≡ b → Outcome
        by_data true all = absurd (none (has_data all))
        by_data false no_data = inr (before_same s t n same h, is, no_data)

    -- nothing was held of it
    none_settles : ((held s.table.entries n.id.0 ≡ None) → length s.table.entries ≢ s.table.limit) → (was : held before.table.entries n.id.0 ≡ None) (is : held s.table.entries n.id.0 ≡ None) → Outcome
    unfolding IsAnswer
    none_settles room was is = by_line accepts.answer
      where
        unknown : known_of s.table.entries own n.id.0 ≡ None
        unknown = known_is ∙ ap (option_map stored_part) is

        by_last : Last → Outcome
        by_last (inl h) = inl (keeps_data h.0 h.1)
        by_last (inr (h, inl k)) = asks_again k.1 h (NoneHeld was is)
        by_last (inr (h, inr k)) = absurd (k.0 (subst (λ (o : Option Part). IsNews o (state_said with_data n)) (sym unknown) tt))

        by_line : IsAnswer s.table own (state_said with_data n) how → Outcome
        by_line (inl h) = absurd (subst (λ (o : Option Part). IsStale o (state_said with_data n)) unknown h.0)
        by_line (inr (h, inl k)) = absurd (room is k.0.1)
        by_line (inr (h, inr (k, rest))) = by_last (last_lines rest)

    -- something was
    some_settles : IsTable before.table → (stored : Stored) (was : held before.table.entries n.id.0 ≡ Some stored) (lost : Option ℕ)
        (is : held s.table.entries n.id.0 ≡ Some (record stored { lost = lost })) → Outcome
    unfolding IsAnswer
    some_settles table stored was lost is = by_line accepts.answer
      where
        part_is : known_of s.table.entries own n.id.0 ≡ Some (stored_part stored)
        part_is = known_is ∙ ap (option_map stored_part) is

        hashed : stored.hash ≡ hash_of stored.body
        hashed =
            let node = of_entry before.table.entries n.id.0 stored was in
            (subst IsIntact node.3 (All-contains (λ (x : HeldNode). IsIntact x.stored) before.table.entries node.0 table.intact node.1)).hashed

        again : how ≡ took.Renumbered → held t.table.entries n.id.0 ≡ Some (stored_renumbered (state_said with_data n) now (record stored { lost = lost }))
        again how_is =
            held_next ∙ (ap (λ (h : Took). held (entries_after s.table.entries (state_said with_data n) now h) n.id.0) how_is
            ∙ (ap (λ (o : Option Stored). held (entries_changed n.id.0 (stored_renumbered (state_said with_data n) now) o s.table.entries) n.id.0) is
            ∙ is_put (stored_renumbered (state_said with_data n) now (record stored { lost = lost }))))

        one_hash : ¬ (stored.hash ≢ hash_of n.body) → hash_of n.body ≡ hash_of stored.body
        one_hash twice = elim (one_or_not stored.hash (hash_of n.body)) [ inl same ↦ sym same ∙ hashed | inr differ ↦ absurd (twice differ) ]

        numbered : ¬ (stored.hash ≢ hash_of n.body) → how ≡ took.Renumbered → IsRepaired before t n
        numbered twice how_is = elim (one_or_not stored.body n.body) [
          | inl same ↦ inl (record { stored = stored_renumbered (state_said with_data n) now (record stored { lost = lost }); is_held = again how_is; number = refl; body = same })
          | inr differ ↦ inr (inr (record { other = stored.body; was_held = inl (stored, was, refl); collide = record { differ = (λ e. differ (sym e)); one_hash = one_hash twice } }))
        ]

        by_last : Last → Outcome
        by_last (inl h) = inl (keeps_data h.0 h.1)
        by_last (inr (h, inl k)) = asks_again k.1 h (SomeHeld stored was lost is)
        by_last (inr (h, inr k)) = inl (numbered (λ differ. k.0 (subst (λ (o : Option Part). IsNews o (state_said with_data n)) (sym part_is) differ)) k.1)

        by_line : IsAnswer s.table own (state_said with_data n) how → Outcome
        by_line (inl h) = inl (inr (inl (record {
          stored = stored;
          was_held = was;
          stale = subst (λ (o : Option Part). IsStale o (state_said with_data n)) part_is h.0;
          lost = lost;
          is_held = same_after h.1 ∙ is;
        })))
        by_line (inr (h, inl k)) = absurd (let clash : None ≡ Some (stored_part stored) = sym k.0.0 ∙ part_is in cc)
        by_line (inr (h, inr (k, rest))) = by_last (last_lines rest)

    pub settles : IsTable before.table → ((held s.table.entries n.id.0 ≡ None) → length s.table.entries ≢ s.table.limit) → AsBefore s n → Outcome
    settles table room (NoneHeld was is) = none_settles room was is
    settles table room (SomeHeld stored was lost is) = some_settles table stored was lost is
