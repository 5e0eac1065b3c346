-- Nodes that are forgotten were not reachable, and so nothing changes without them.
use Rattle.hn_base.proofs.Names.{◌≡◌, ◌∙◌, ℕ, Bool, true, false, cond, not, List, [], ◌∷◌, ◌++◌, map, filter, get_or, nat_lt, Option, Some, None, inl, inr, refl, sym, ap, subst, All, is_none, ◌==◌}
use Rattle.hn_base.proofs.Names.{nat_le, option_map, option_map_or, filter_map, cons_option, eq-eqb, eqb-true, All-head, All-tail, All-filter, All-weaker, All-contains, All-contains_itself}
use Rattle.hn_base.proofs.Names.{Contains-append_left, Contains-append_right, Contains-append_cases, list_any_at}
use Rattle.hn_rules.proofs.Names.{Contains, ◌⊎◌, NodeId, Contains-map, Contains-from_map, in_filter, from_filter, hash_of, Part, Entry, IsReachable, IsLike, KeepsReach, ReachabilityStays, held}
use Rattle.hn_rules.proofs.Names.{stored_part, is_among, is_forgotten, remembered, Stored, HeldNode, State, Running, held_entry, own_entry, IsReach, part_of, parts_of, forgetting, IsRefreshed}
use Rattle.std.specs.Prelude.{◌+◌}
use Rattle.hn_hash.specs.Network.{part_text}
use Rattle.hn_base.proofs.PassingElements.{find-filter}

-- ---- lists

module _ {A B : Type 0} where
  pub filter_map-same : (f g : A → Option B) (xs : List A) → All (λ x. f x ≡ g x) xs → filter_map f xs ≡ filter_map g xs
  filter_map-same f g [] same = refl
  filter_map-same f g (x ∷ xs) same =
      ap (λ o. cons_option o (filter_map f xs)) (All-head (λ x. f x ≡ g x) x xs same)
      ∙ ap (cons_option (g x)) (filter_map-same f g xs (All-tail (λ x. f x ≡ g x) x xs same))

-- ---- an element between those below it and those above it

module _ {A : Type 0} (lower greater : A → Bool) (m : A) where
  abbrev pub between : List A → List A
  between xs = filter lower xs ++ m ∷ filter greater xs

  -- what is there stays there, if it stays among the others
  stays_between : (xs ys : List A) (x : A) → (Contains xs x → Contains ys x) → Contains (between xs) x → Contains (between ys) x
  stays_between xs ys x goes there = by_part (Contains-append_cases (filter lower xs) (m ∷ filter greater xs) x there)
    where
      above : Contains (m ∷ []) x ⊎ Contains (filter greater xs) x → Contains (m ∷ filter greater ys) x
      above (inl here) = Contains-append_left (m ∷ []) (filter greater ys) x here
      above (inr old) = Contains-append_right (m ∷ []) (filter greater ys) x (in_filter greater ys x (goes (from_filter greater xs x old).0) (from_filter greater xs x old).1)

      by_part : Contains (filter lower xs) x ⊎ Contains (m ∷ filter greater xs) x → Contains (between ys) x
      by_part (inl old) =
          Contains-append_left (filter lower ys) (m ∷ filter greater ys) x (in_filter lower ys x (goes (from_filter lower xs x old).0) (from_filter lower xs x old).1)
      by_part (inr rest) = Contains-append_right (filter lower ys) (m ∷ filter greater ys) x (above (Contains-append_cases (m ∷ []) (filter greater xs) x rest))

-- ---- who is forgotten

pub among_reach : (reach : List NodeId) (id : NodeId) (n : ℕ) → Contains reach id → id.0 ≡ n → is_among reach n ≡ true
among_reach reach id n (k, within, is) same =
    list_any_at (λ (i : NodeId). i.0 == n) reach k id within (eq-eqb (get_or reach k id).0 n (ap (λ (i : NodeId). i.0) is ∙ same))

not_lost : (now : ℕ) (lost : Option ℕ) → is_none lost ≡ true → not (option_map_or (λ moment. nat_le (moment + 42000) now) lost false) ≡ true
not_lost now None is = refl
not_lost now (Some moment) is = absurd cc

abbrev pub stays : ℕ → HeldNode → Bool
stays now node = not (is_forgotten now node)

abbrev pub IsMarked : List NodeId → HeldNode → Type 0
IsMarked reach node = is_among reach node.id.0 ≡ is_none node.stored.lost

-- a reachable node stays
reachable_stays : (reach : List NodeId) (now : ℕ) (node : HeldNode) → IsMarked reach node → is_among reach node.id.0 ≡ true → stays now node ≡ true
reachable_stays reach now node marked among = not_lost now node.stored.lost (sym marked ∙ among)

-- ---- the same nodes are reachable

module _ (s : State) (moment now : ℕ) (is_reach : IsReach (record s { moment = moment }) s.reach) (marked : All (IsMarked s.reach) s.table.entries) where
  abbrev before : List Entry
  before = map (held_entry moment) s.table.entries

  abbrev after : List Entry
  after = map (held_entry moment) (filter (stays now) s.table.entries)

  abbrev lower : Entry → Bool
  lower n = nat_lt n.id.0 s.id.0

  abbrev greater : Entry → Bool
  greater n = nat_lt s.id.0 n.id.0

  abbrev own : Entry
  own = own_entry (record s { moment = moment })

  like_itself : (x : Entry) → IsLike x x
  like_itself x = record { id = refl; body = refl; recent = λ recent. recent }

  still_held : (x : Entry) → IsReachable s.id.0 (between lower greater own before) x.id.0 → Contains before x → Contains after x
  still_held x reachable there =
      let from = Contains-from_map (held_entry moment) s.table.entries x there in
      let node = from.0 in
      let same : node.id.0 ≡ x.id.0 = ap (λ (n : Entry). n.id.0) from.2 in
      let among : is_among s.reach node.id.0 ≡ true = among_reach s.reach x.id node.id.0 ((is_reach.exactly x.id).1 reachable) (sym same) in
      let remains = reachable_stays s.reach now node (All-contains (IsMarked s.reach) s.table.entries node marked from.1) among in
      let held = Contains-map (held_entry moment) (filter (stays now) s.table.entries) node (in_filter (stays now) s.table.entries node from.1 remains) in
      subst (Contains after) from.2 held

  was_held : (y : Entry) → Contains after y → Contains before y
  was_held y there =
      let from = Contains-from_map (held_entry moment) (filter (stays now) s.table.entries) y there in
      subst (Contains before) from.2 (Contains-map (held_entry moment) s.table.entries from.0 (from_filter (stays now) s.table.entries from.0 from.1).0)

  keeps_reach : KeepsReach s.id.0 (between lower greater own before) (between lower greater own after)
  keeps_reach = record {
    kept = λ x there reachable. (x, stays_between lower greater own before after x (still_held x reachable) there, like_itself x);
    known = λ y there. (y, stays_between lower greater own after before y (was_held y) there, like_itself y);
  }

  pub same_held : (id : NodeId) → Contains s.reach id → held (filter (stays now) s.table.entries) id.0 ≡ held s.table.entries id.0
  same_held id there =
      let same = find-filter (λ (node : HeldNode). node.id.0 == id.0) (stays now) s.table.entries
      (All-weaker (IsMarked s.reach) (λ node. (node.id.0 == id.0) ≡ true → stays now node ≡ true)
      (λ node one is. reachable_stays s.reach now node one (among_reach s.reach id node.id.0 there (sym (eqb-true node.id.0 id.0 is)))) s.table.entries marked) in
      ap (option_map (λ (node : HeldNode). node.stored)) same

  same_part : (id : NodeId) → Contains s.reach id → part_of (record s { table = remembered now s.table }) id ≡ part_of s id
  same_part id there =
      ap (λ (h : Option Stored). cond (id.0 == s.id.0) (let part : Part = record { number = s.number; hash = s.own.hash } in Some part) (option_map stored_part h)) (same_held id there)

  same_parts : filter_map (part_of (record s { table = remembered now s.table })) s.reach ≡ parts_of s
  same_parts =
      filter_map-same (part_of (record s { table = remembered now s.table })) (part_of s) s.reach (All-weaker (Contains s.reach) _ same_part s.reach (All-contains_itself s.reach))

-- a router that forgets nodes still has all its facts
pub refreshed_forgetting : ReachabilityStays → (r : Running) → IsRefreshed r.state → IsRefreshed (forgetting r).state
refreshed_forgetting reach_stays r is =
    let s = r.state in
    let moment = is.reached.moment in
    let was = is.reached.was in
    let keeps = keeps_reach s moment s.moment was is.lost in
    record {
      published = is.published;
      reached = record {
        moment = moment;
        past = is.reached.past;
        was = record {
          ascending = was.ascending;
          exactly = λ id.
              let same = reach_stays s.id.0 _ _ keeps id.0 in
              let there = was.exactly id in
              (λ old. same.0 (there.0 old), λ reachable. there.1 (same.1 reachable));
        };
      };
      lost = All-filter (stays s.moment) (IsMarked s.reach) s.table.entries is.lost;
      hashed = is.hashed ∙ ap (λ parts. hash_of (part_text parts)) (sym (same_parts s moment s.moment was is.lost));
    }
