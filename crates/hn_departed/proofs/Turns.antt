-- What waits is told in its turn.
use Rattle.hn_base.proofs.Names.{◌≡◌, ℕ, zero, suc, ◌+◌, ◌-◌, ◌*◌, ◌<◌, ◌≤◌, Bool, true, false, cond, not, nat_lt, List, [], ◌∷◌, ◌++◌, length, take, drop, map, Option, None, Some, refl, sym, ap, ◌∙◌}
use Rattle.hn_base.proofs.Names.{subst, arith, rules, tests, ◌⊎◌, inl, inr, append_assoc, length-append, is_none, All, false≢true, cases_lt, and_from, All-head, All-tail, All-append, All-take}
use Rattle.hn_base.proofs.Names.{All-map, All-filter, All-contains, filter-append, Contains-append_right, Contains-append_cases, PlainPrefix}
use Rattle.hn_departed.proofs.Names.{◌&&◌, length-drop, length-take, is_some, Contains, filter, All-drop, Contains-head, Contains-tail, nothing_in, all_of, Info, Told, told_of, deprecated}
use Rattle.hn_departed.proofs.Names.{is_departed, departs, departed, kept, queue, with_departed, told_after}
use Rattle.std.proofs.Math.Seq.{split_at}
use Rattle.std.proofs.lemmas.List.{drop-append-le}
use Rattle.hn_base.proofs.AscendingLists.{Contains-map}
use Rattle.hn_departed.specs.Departed.{is_prefix_among}
use Rattle.hn_departed.specs.Laws.{Turn, sent_in, departing, NothingDeparts, IsDeprecatedIn, DepartedAreTold}
use Rattle.hn_departed.proofs.FirstGoes.{length-kept, few_stay}
use Rattle.hn_departed.proofs.EndSoon.{all_kept}

-- ---- lists

-- a list around one of its elements
pub record Around {X : Type 0} (xs : List X) (x : X) : Type 0 where
  pub front : List X
  pub back : List X
  pub parts : xs ≡ front ++ x ∷ back

around : {X : Type 0} (xs : List X) (x : X) → Contains xs x → Around xs x
around {X} xs x (k, within, at) = record {
  front = take k xs;
  back = drop (suc k) xs;
  parts = split_at xs k x within ∙ ap (λ (y : X). take k xs ++ y ∷ drop (suc k) xs) at;
}

length-around : {X : Type 0} (front back : List X) (x : X) → length (front ++ x ∷ back) ≡ suc (length front + length back)
length-around front back x =
    let all = length-append front (x ∷ back) in
    omega (arith, all)

no_more : {X : Type 0} (test : X → Bool) (xs : List X) → length (filter test xs) ≤ length xs
no_more test [] = omega arith
no_more {X} test (x ∷ xs) = go (test x) (no_more test xs)
  where
    go : (b : Bool) → length (filter test xs) ≤ length xs → length (cond b (x ∷ filter test xs) (filter test xs)) ≤ suc (length xs)
    go true rest = omega (arith, rest)
    go false rest = omega (arith, rest)

-- a filter that passes an element, around it
filter-around : {X : Type 0} (test : X → Bool) (front back : List X) (x : X) → test x ≡ true
    → filter test (front ++ x ∷ back) ≡ filter test front ++ x ∷ filter test back
filter-around {X} test front back x passes =
    filter-append test front (x ∷ back)
    ∙ ap (λ (b : Bool). filter test front ++ cond b (x ∷ filter test back) (filter test back)) passes

-- an element is among the first ones, if fewer stand before it
among_first : {X : Type 0} (front back : List X) (x : X) (room : ℕ) → length front < room → Contains (take room (front ++ x ∷ back)) x
among_first [] back x zero less = absurd (omega (arith, less))
among_first [] back x (suc room) less = Contains-head x (take room back)
among_first (y ∷ ys) back x zero less = absurd (omega (arith, less))
among_first (y ∷ ys) back x (suc room) less = Contains-tail y (take room (ys ++ x ∷ back)) x (among_first ys back x room (omega (arith, less)))

as_many : {X : Type 0} (room : ℕ) (xs : List X) → length (drop room xs ++ take room xs) ≡ length xs
as_many room xs =
    let all = length-append (drop room xs) (take room xs) in
    let dropped = length-drop room xs in
    let taken = length-take room xs in
    omega (arith, all, dropped, taken)

-- ---- what has departed, and what has not

abbrev HasDeparted : Told → Type 0
HasDeparted t = is_some t.departed ≡ true

-- what has departed stays as it is
departed_stays : (now : ℕ) (p : PlainPrefix) (until : ℕ) (since : Option ℕ) → is_some since ≡ true
    → departs now (record { prefix = p; until = until; departed = since }) ≡ record { prefix = p; until = until; departed = since }
departed_stays now p until None is = absurd (false≢true is)
departed_stays now p until (Some moment) is = refl

map_departed : (now : ℕ) (ts : List Told) → All HasDeparted ts → map (departs now) ts ≡ ts
map_departed now [] all = refl
map_departed now (t ∷ ts) all =
    ap (λ (u : Told). u ∷ map (departs now) ts) (departed_stays now t.prefix t.until t.departed (All-head HasDeparted t ts all))
    ∙ ap (λ (us : List Told). t ∷ us) (map_departed now ts (All-tail HasDeparted t ts all))

abbrev is_departing : ℕ → List Info → Told → Bool
is_departing now infos t = is_none t.departed && is_departed now infos t

-- of what is held nothing is gone, if nothing departs
none_gone : (now : ℕ) (infos : List Info) (ts : List Told) → All (λ t. t.departed ≡ None) ts → filter (is_departing now infos) ts ≡ [] → filter (is_departed now infos) ts ≡ []
none_gone now infos [] held none = refl
none_gone now infos (t ∷ ts) held none = go (is_departed now infos t) refl (none_gone now infos ts (All-tail (λ u. u.departed ≡ None) t ts held))
  where
    is : t.departed ≡ None
    is = All-head (λ u. u.departed ≡ None) t ts held

    same : (b : Bool) → is_departed now infos t ≡ b → is_departing now infos t ≡ b
    same b gone = ap (λ (o : Option ℕ). is_none o && is_departed now infos t) is ∙ gone

    go : (b : Bool) → is_departed now infos t ≡ b → (filter (is_departing now infos) ts ≡ [] → filter (is_departed now infos) ts ≡ []) → filter (is_departed now infos) (t ∷ ts) ≡ []
    go true gone rest =
        let first : filter (is_departing now infos) (t ∷ ts) ≡ t ∷ filter (is_departing now infos) ts =
        ap (λ (b : Bool). cond b (t ∷ filter (is_departing now infos) ts) (filter (is_departing now infos) ts)) (same true gone) in
        absurd (nothing_in t (subst (λ (us : List Told). Contains us t) (sym first ∙ none) (Contains-head t (filter (is_departing now infos) ts))))
    go false gone rest =
        let first : filter (is_departing now infos) (t ∷ ts) ≡ filter (is_departing now infos) ts =
        ap (λ (b : Bool). cond b (t ∷ filter (is_departing now infos) ts) (filter (is_departing now infos) ts)) (same false gone) in
        ap (λ (b : Bool). cond b (t ∷ filter (is_departed now infos) ts) (filter (is_departed now infos) ts)) gone
        ∙ rest (sym first ∙ none)

-- the front of a list without elements has none
front_none : {X : Type 0} (xs ys : List X) → xs ++ ys ≡ [] → xs ≡ []
front_none [] ys none = refl
front_none {X} (x ∷ xs) ys none = absurd (nothing_in x (subst (λ (zs : List X). Contains zs x) none (Contains-head x (xs ++ ys))))

-- ---- waiting

-- of what was told so many departed ones stand before this one
pub record Waits (here : List Told) (told : Told) (ahead : ℕ) : Type 0 where
  pub held : List Told
  pub front : List Told
  pub back : List Told
  pub parts : here ≡ held ++ (front ++ told ∷ back)
  pub are_held : All (λ t. t.departed ≡ None) held
  pub are_departed : All HasDeparted (front ++ told ∷ back)
  pub few : length (front ++ told ∷ back) ≤ 64
  pub before : length front ≤ ahead

abbrev IsQuiet : Told → Turn → Type 0
IsQuiet told turn = (turn.now < told.until) × (is_prefix_among told.prefix turn.infos ≡ false)

passes : (turn : Turn) (told : Told) → IsQuiet told turn → is_departed turn.now turn.infos told ≡ true
passes turn told quiet = and_from (nat_lt turn.now told.until) (not (is_prefix_among told.prefix turn.infos)) (search (rules, tests, quiet.0)) (ap not quiet.1)

-- the line at a turn at which nothing departs
abbrev line_around : Turn → Told → List Told → List Told → List Told
line_around turn told front back = filter (is_departed turn.now turn.infos) front ++ told ∷ filter (is_departed turn.now turn.infos) back

line_is : (turn : Turn) (here : List Told) (told : Told) (ahead : ℕ) (w : Waits here told ahead) → IsQuiet told turn → departing turn.now turn.infos here ≡ []
    → queue turn.now turn.infos here ≡ line_around turn told w.front w.back
line_is turn here told ahead w quiet none =
    let gone = is_departed turn.now turn.infos in
    let waiting = w.front ++ told ∷ w.back in
    let nothing : filter (is_departing turn.now turn.infos) w.held ≡ [] =
    front_none (filter (is_departing turn.now turn.infos) w.held) (filter (is_departing turn.now turn.infos) waiting)
    (sym (filter-append (is_departing turn.now turn.infos) w.held waiting) ∙ ap (filter (is_departing turn.now turn.infos)) (sym w.parts) ∙ none) in
    let those : filter gone here ≡ filter gone waiting =
    ap (filter gone) w.parts ∙ filter-append gone w.held waiting
    ∙ ap (λ (us : List Told). us ++ filter gone waiting) (none_gone turn.now turn.infos w.held w.are_held nothing) in
    let same : departed turn.now turn.infos here ≡ filter gone waiting =
    ap (map (departs turn.now)) those ∙ map_departed turn.now (filter gone waiting) (All-filter gone HasDeparted waiting w.are_departed) in
    let fewer : length (filter gone waiting) ≤ 64 = let less = no_more gone waiting in omega (arith, less, w.few) in
    ap kept same ∙ few_stay (filter gone waiting) fewer ∙ filter-around gone w.front w.back told (passes turn told quiet)

-- at a turn with room for it, it is told
told_now : (turn : Turn) (here : List Told) (told : Told) (ahead : ℕ) (w : Waits here told ahead) → IsQuiet told turn → departing turn.now turn.infos here ≡ []
    → length (filter (is_departed turn.now turn.infos) w.front) < turn.room → IsDeprecatedIn told.prefix (with_departed turn.now turn.infos turn.room here)
told_now turn here told ahead w quiet none less =
    let gone = is_departed turn.now turn.infos in
    let first : Contains (take turn.room (queue turn.now turn.infos here)) told =
    subst (λ (us : List Told). Contains (take turn.room us) told) (sym (line_is turn here told ahead w quiet none))
    (among_first (filter gone w.front) (filter gone w.back) told turn.room less) in
    record {
      told = deprecated turn.now told;
      there = Contains-append_right turn.infos _ _ (Contains-map (deprecated turn.now) _ _ first);
      prefix_is = refl;
      preferred = refl;
    }

-- and else fewer stand before it afterwards
waits_less : (turn : Turn) (here : List Told) (told : Told) (ahead : ℕ) (w : Waits here told ahead) → IsQuiet told turn → departing turn.now turn.infos here ≡ []
    → 6 ≤ turn.room → turn.room ≤ length (filter (is_departed turn.now turn.infos) w.front) → Waits (told_after turn.now turn.infos turn.room here) told (ahead - 6)
waits_less turn here told ahead w quiet none room past =
    let gone = is_departed turn.now turn.infos in
    let front = filter gone w.front in
    let back = filter gone w.back in
    let those = front ++ told ∷ back in
    let held = map (told_of turn.now) turn.infos in
    let is = line_is turn here told ahead w quiet none in
    let fewer = no_more gone w.front in
    let moved : drop turn.room those ≡ drop turn.room front ++ told ∷ back = drop-append-le turn.room front (told ∷ back) past in
    let rest : drop turn.room those ++ take turn.room those ≡ drop turn.room front ++ told ∷ (back ++ take turn.room those) =
    ap (λ (us : List Told). us ++ take turn.room those) moved ∙ append_assoc (drop turn.room front) (told ∷ back) (take turn.room those) in
    let waiting = w.front ++ told ∷ w.back in
    let kept_departed : All HasDeparted those =
    subst (All HasDeparted) (filter-around gone w.front w.back told (passes turn told quiet)) (All-filter gone HasDeparted waiting w.are_departed) in
    let kept_few : length those ≤ 64 =
    subst (λ (us : List Told). length us ≤ 64) (filter-around gone w.front w.back told (passes turn told quiet)) (let less = no_more gone waiting in omega (arith, less, w.few)) in
    record {
      held = held;
      front = drop turn.room front;
      back = back ++ take turn.room those;
      parts = append_assoc held (drop turn.room (queue turn.now turn.infos here)) (take turn.room (queue turn.now turn.infos here))
          ∙ ap (λ (us : List Told). held ++ (drop turn.room us ++ take turn.room us)) is ∙ ap (λ (us : List Told). held ++ us) rest;
      are_held = All-map (λ t. t.departed ≡ None) (told_of turn.now) turn.infos (all_of (λ i. (told_of turn.now i).departed ≡ None) turn.infos (λ i there. refl));
      are_departed = subst (All HasDeparted) rest
          (All-append HasDeparted (drop turn.room those) (take turn.room those) (All-drop HasDeparted turn.room those kept_departed) (All-take HasDeparted turn.room those kept_departed));
      few = subst (λ (us : List Told). length us ≤ 64) rest (let all = as_many turn.room those in omega (arith, all, kept_few));
      before = let dropped = length-drop turn.room front in omega (arith, dropped, fewer, w.before, room, past);
    }

-- ---- in one of the turns

abbrev IsToldIn : Told → List Turn → List Told → Type 0
IsToldIn told turns here = (sent : List Info) × Contains (sent_in turns here) sent × IsDeprecatedIn told.prefix sent

in_turn : (turns : List Turn) (here : List Told) (told : Told) (ahead : ℕ) → Waits here told ahead → ahead < 6 * length turns
    → All (λ turn. 6 ≤ turn.room) turns → NothingDeparts turns here → All (IsQuiet told) turns → IsToldIn told turns here
in_turn [] here told ahead w less room calm quiet = absurd (omega (arith, less))
in_turn (turn ∷ turns) here told ahead w less room calm quiet =
    go (cases_lt (length (filter (is_departed turn.now turn.infos) w.front)) turn.room)
    (λ later shorter. in_turn turns (told_after turn.now turn.infos turn.room here) told (ahead - 6) later shorter
    (All-tail (λ (t : Turn). 6 ≤ t.room) turn turns room) calm.1 (All-tail (IsQuiet told) turn turns quiet))
  where
    now_quiet : IsQuiet told turn
    now_quiet = All-head (IsQuiet told) turn turns quiet

    now_room : 6 ≤ turn.room
    now_room = All-head (λ (t : Turn). 6 ≤ t.room) turn turns room

    go : (length (filter (is_departed turn.now turn.infos) w.front) < turn.room) ⊎ (turn.room ≤ length (filter (is_departed turn.now turn.infos) w.front))
        → (Waits (told_after turn.now turn.infos turn.room here) told (ahead - 6) → ahead - 6 < 6 * length turns
        → IsToldIn told turns (told_after turn.now turn.infos turn.room here))
        → IsToldIn told (turn ∷ turns) here
    go (inl few) rest = (with_departed turn.now turn.infos turn.room here, Contains-head _ _, told_now turn here told ahead w now_quiet calm.0 few)
    go (inr many) rest =
        let fewer = no_more (is_departed turn.now turn.infos) w.front in
        let later = waits_less turn here told ahead w now_quiet calm.0 now_room many in
        let found = rest later (omega (arith, less, fewer, many, now_room, w.before)) in
        (found.0, Contains-tail _ _ _ found.1, found.2)

-- ---- after an advertisement

-- what has departed is some time after it departed
all_departed : (now : ℕ) (ts : List Told) → All HasDeparted (map (departs now) ts)
all_departed now ts = All-map HasDeparted (departs now) ts (all_of (λ t. HasDeparted (departs now t)) ts (λ t there. refl))

waits_first : (now : ℕ) (infos : List Info) (room : ℕ) (earlier : List Told) (told : Told) → Contains (told_after now infos room earlier) told → HasDeparted told
    → Waits (told_after now infos room earlier) told 63
waits_first now infos room earlier told there some =
    let few = queue now infos earlier in
    let held = map (told_of now) infos in
    let waiting = drop room few ++ take room few in
    let parted : told_after now infos room earlier ≡ held ++ waiting = append_assoc held (drop room few) (take room few) in
    let are_held : All (λ t. t.departed ≡ None) held =
    All-map (λ t. t.departed ≡ None) (told_of now) infos (all_of (λ i. (told_of now i).departed ≡ None) infos (λ i in_infos. refl)) in
    let all : All HasDeparted few = all_kept HasDeparted (departed now infos earlier) (all_departed now (filter (is_departed now infos) earlier)) in
    let in_waiting : Contains waiting told = elim (Contains-append_cases held waiting told (subst (λ (us : List Told). Contains us told) parted there)) [
      | inl in_held ↦ absurd (not_both told.departed (All-contains (λ t. t.departed ≡ None) held told are_held in_held) some)
      | inr later ↦ later
    ] in
    let at = around waiting told in_waiting in
    let size : length (at.front ++ told ∷ at.back) ≤ 64 =
    subst (λ (us : List Told). length us ≤ 64) at.parts (let same = as_many room few in let at_most = length-kept (departed now infos earlier) in omega (arith, same, at_most)) in
    record {
      held = held;
      front = at.front;
      back = at.back;
      parts = parted ∙ ap (λ (us : List Told). held ++ us) at.parts;
      are_held = are_held;
      are_departed = subst (All HasDeparted) at.parts (All-append HasDeparted (drop room few) (take room few) (All-drop HasDeparted room few all) (All-take HasDeparted room few all));
      few = size;
      before = let whole = length-around at.front at.back told in omega (arith, whole, size);
    }
  where
    not_both : (o : Option ℕ) → o ≡ None → is_some o ≡ true → ⊥
    not_both o none some = false≢true (sym (ap is_some none) ∙ some)

pub departed_told : DepartedAreTold
departed_told now infos room earlier told turns there some eleven room_for calm quiet =
    in_turn turns (told_after now infos room earlier) told 63 (waits_first now infos room earlier told there some) (omega (arith, eleven)) room_for calm quiet
