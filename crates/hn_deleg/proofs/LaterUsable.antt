-- Usable prefixes while time passes.
use Rattle.hn_base.proofs.Names.{◌≡◌, ◌≢◌, ◌∙◌, ◌⊎◌, ◌↔◌, ℕ, ◌+◌, ◌-◌, ◌*◌, ◌^◌, ◌<◌, ◌≤◌, Bool, cond, List, [], ◌∷◌, length, map, min, Contains, refl, sym, ap, subst, inl, inr, arith, All, Less}
use Rattle.hn_base.proofs.Names.{IsStrictlySortedBy, cases_lt, cases_eq, ne_eqb, length-map, All-contains, PlainPrefix, prefix_cmp}
use Rattle.hn_deleg.proofs.Names.{Contains-map, Contains-from_map, all_of, contains_at, HasDelegation, aged_entry, HasVersion, PlainView, Delegation, Entry, Delegated, IsEnd, IsDelegationEnd, IsEndIn}
use Rattle.hn_deleg.proofs.Names.{remaining, IsAnnounced, IsAnnouncedPrefix, IsLongestLeft, IsOutermost, HasLifetimes}
use Rattle.hn_base.proofs.PartsAtPlaces.{part_at, part_stands}
use Rattle.hn_data.specs.Later.{IsLater}
use Rattle.hn_deleg.specs.Due.{IsLifetimeEnd}
use Rattle.hn_deleg.specs.Later.{left_after, aged_delegated}
use Rattle.hn_deleg.specs.Laws.{AgedAreTheSamePrefixes, EndsOfLater, UsableOfLater, UnwantedOfLater}
use Rattle.hn_deleg.specs.Used.{IsUnwanted}
use Rattle.hn_deleg.proofs.Fits.{IsDelegation, said_in_range}

-- ---- lifetimes

-- one that never ends stays, and another gets shorter
left_cases : (time ms : ℕ) → ms ≤ 2 ^ 64 - 1 → ((ms ≡ 2 ^ 64 - 1) × (left_after time ms ≡ 2 ^ 64 - 1)) ⊎ ((ms < 2 ^ 64 - 1) × (left_after time ms ≡ ms - time))
left_cases time ms within = elim (cases_eq ms (2 ^ 64 - 1)) [
  | inl endless ↦ inl (endless, ap (left_after time) endless)
  | inr other ↦
      let less : ms < 2 ^ 64 - 1 = omega (arith, within, other) in
      inr (less, ap (λ (b : Bool). cond b (2 ^ 64 - 1) (ms - time)) (ne_eqb ms (2 ^ 64 - 1) other))
]

left_none : (time ms : ℕ) → ms ≡ 0 → left_after time ms ≡ 0
left_none time ms none = elim (left_cases time ms (omega (arith, none))) [
  | inl (endless, is) ↦ omega (arith, endless, none)
  | inr (less, is) ↦ omega (arith, is, none)
]

left_in_order : (time a b : ℕ) → b ≤ 2 ^ 64 - 1 → a ≤ b → left_after time a ≤ left_after time b
left_in_order time a b within below = elim (left_cases time a (omega (arith, within, below))) [
  | inl (a_endless, a_is) ↦
      elim (left_cases time b within) [
        | inl (b_endless, b_is) ↦ omega (arith, a_is, b_is)
        | inr (b_less, b_is) ↦ omega (arith, a_endless, b_less, below)
      ]
  | inr (a_less, a_is) ↦
      elim (left_cases time b within) [
        | inl (b_endless, b_is) ↦ omega (arith, a_less, a_is, b_is)
        | inr (b_less, b_is) ↦ omega (arith, below, a_is, b_is)
      ]
]

left_of_both : (time a b : ℕ) → a ≤ 2 ^ 64 - 1 → b ≤ 2 ^ 64 - 1 → left_after time (min a b) ≡ min (left_after time a) (left_after time b)
left_of_both time a b a_within b_within = elim (cases_lt a b) [
  | inl less ↦
      let first : min a b ≡ a = omega (arith, less) in
      let order = left_in_order time a b b_within (omega (arith, less)) in
      let last : left_after time a ≡ min (left_after time a) (left_after time b) = omega (arith, order) in
      ap (left_after time) first ∙ last
  | inr rest ↦
      let first : min a b ≡ b = omega (arith, rest) in
      let order = left_in_order time b a a_within rest in
      let last : left_after time b ≡ min (left_after time a) (left_after time b) = omega (arith, order) in
      ap (left_after time) first ∙ last
]

-- what remains of one of 4294967295 s, and of another
remaining_cases : (age seconds : ℕ) → ((seconds ≡ 4294967295) × (remaining age seconds ≡ 2 ^ 64 - 1)) ⊎ ((seconds ≢ 4294967295) × (remaining age seconds ≡ 1000 * seconds - age))
remaining_cases age seconds = elim (cases_eq seconds 4294967295) [
  | inl endless ↦ inl (endless, ap (remaining age) endless)
  | inr other ↦ inr (other, ap (λ (b : Bool). cond b (2 ^ 64 - 1) (1000 * seconds - age)) (ne_eqb seconds 4294967295 other))
]

remaining_within : (age seconds : ℕ) → seconds < 2 ^ 32 → remaining age seconds ≤ 2 ^ 64 - 1
remaining_within age seconds fits = elim (remaining_cases age seconds) [
  | inl (endless, is) ↦ omega (arith, is)
  | inr (other, is) ↦ omega (arith, is, fits)
]

remaining_later : (time age seconds : ℕ) → seconds < 2 ^ 32 → left_after time (remaining age seconds) ≡ remaining (age + time) seconds
remaining_later time age seconds fits = elim (remaining_cases age seconds) [
  | inl (endless, is) ↦ ap (left_after time) is ∙ sym (ap (remaining (age + time)) endless)
  | inr (other, is) ↦
      elim (remaining_cases (age + time) seconds) [
        | inl (endless, later_is) ↦ absurd (other endless)
        | inr (same, later_is) ↦
            elim (left_cases time (remaining age seconds) (remaining_within age seconds fits)) [
              | inl (full, left_is) ↦ omega (arith, full, is, fits)
              | inr (less, left_is) ↦ omega (arith, is, later_is, left_is)
            ]
      ]
]

pub remaining_before : (time age seconds : ℕ) → 0 < remaining (age + time) seconds → 0 < remaining age seconds
remaining_before time age seconds some = elim (remaining_cases age seconds) [
  | inl (endless, is) ↦ omega (arith, is)
  | inr (other, is) ↦
      elim (remaining_cases (age + time) seconds) [
        | inl (endless, later_is) ↦ absurd (other endless)
        | inr (same, later_is) ↦ omega (arith, is, later_is, some)
      ]
]

-- ---- ends that are still to come

end_later : (now time age seconds m : ℕ) → now + time < m → IsEnd now age seconds m → IsEnd (now + time) (age + time) seconds m
end_later now time age seconds m after h = elim (remaining_cases age seconds) [
  | inl (endless, is) ↦ absurd (h.ends endless)
  | inr (other, is) ↦
      elim (remaining_cases (age + time) seconds) [
        | inl (endless, later_is) ↦ absurd (other endless)
        | inr (same, later_is) ↦ let at = h.is in record { ends = h.ends; is = omega (arith, at, is, later_is, after) }
      ]
]

end_before : (now time age seconds m : ℕ) → now + time < m → IsEnd (now + time) (age + time) seconds m → IsEnd now age seconds m
end_before now time age seconds m after h = elim (remaining_cases age seconds) [
  | inl (endless, is) ↦ absurd (h.ends endless)
  | inr (other, is) ↦
      elim (remaining_cases (age + time) seconds) [
        | inl (endless, later_is) ↦ absurd (other endless)
        | inr (same, later_is) ↦ let at = h.is in record { ends = h.ends; is = omega (arith, at, is, later_is, after) }
      ]
]

module _ (before after : PlainView) (later : IsLater before after) (m : ℕ) (comes : before.now + later.time < m) where
  end_stays : (x : Entry) → IsEndIn before.now x m → IsEndIn (before.now + later.time) (aged_entry later.time x) m
  end_stays x h = record {
    version = h.version;
    delegation = h.delegation;
    said = h.said;
    ends = elim h.ends [
      | inl valid ↦ inl (end_later before.now later.time x.age h.delegation.valid m comes valid)
      | inr preferred ↦ inr (end_later before.now later.time x.age h.delegation.preferred m comes preferred)
    ];
  }

  end_was : (x : Entry) → IsEndIn (before.now + later.time) (aged_entry later.time x) m → IsEndIn before.now x m
  end_was x h = record {
    version = h.version;
    delegation = h.delegation;
    said = h.said;
    ends = elim h.ends [
      | inl valid ↦ inl (end_before before.now later.time x.age h.delegation.valid m comes valid)
      | inr preferred ↦ inr (end_before before.now later.time x.age h.delegation.preferred m comes preferred)
    ];
  }

  same_ends : IsLifetimeEnd before m ↔ IsLifetimeEnd after m
  same_ends = (
    λ (x, there, ends). (
      aged_entry later.time x,
      subst (λ (nodes : List Entry). Contains nodes (aged_entry later.time x)) (sym later.nodes) (Contains-map (aged_entry later.time) before.nodes x there),
      subst (λ (now : ℕ). IsEndIn now (aged_entry later.time x) m) (sym later.now) (end_stays x ends),
    ),
    λ (y, there, ends).
        let found = Contains-from_map (aged_entry later.time) before.nodes y (subst (λ (nodes : List Entry). Contains nodes y) later.nodes there) in
        let at_now : IsEndIn (before.now + later.time) y m = subst (λ (now : ℕ). IsEndIn now y m) later.now ends in
        (found.0, found.1, end_was found.0 (subst (λ (n : Entry). IsEndIn (before.now + later.time) n m) (sym found.2) at_now)),
  )

pub ends_later : EndsOfLater
ends_later before after later m comes = same_ends before after later m (subst (λ (now : ℕ). now < m) later.now comes)

-- ---- what is announced

module _ (before after : PlainView) (later : IsLater before after) (none : (m : ℕ) → IsLifetimeEnd before m → before.now < m → after.now < m) where
  kept : (x : Entry) → Contains before.nodes x → Contains after.nodes (aged_entry later.time x)
  kept x there = subst (λ (nodes : List Entry). Contains nodes (aged_entry later.time x)) (sym later.nodes) (Contains-map (aged_entry later.time) before.nodes x there)

  known : (y : Entry) → Contains after.nodes y → (x : Entry) × Contains before.nodes x × (aged_entry later.time x ≡ y)
  known y there = Contains-from_map (aged_entry later.time) before.nodes y (subst (λ (nodes : List Entry). Contains nodes y) later.nodes there)

  -- a lifetime of an announced prefix that has not ended does not end
  lasts : (x : Entry) (d : Delegation) (seconds : ℕ) → Contains before.nodes x → HasVersion x.body → HasDelegation x.body d
      → ((m : ℕ) → IsEnd before.now x.age seconds m → IsDelegationEnd before.now x.age d m) → 0 < remaining x.age seconds
      → 0 < remaining (x.age + later.time) seconds
  lasts x d seconds there version said of some = elim (remaining_cases (x.age + later.time) seconds) [
    | inl (endless, is) ↦ omega (arith, is)
    | inr (other, is) ↦
        elim (remaining_cases x.age seconds) [
          | inl (endless, was) ↦ absurd (other endless)
          | inr (same, was) ↦
              let m = before.now + remaining x.age seconds in
              let comes : after.now < before.now + remaining x.age seconds =
              none m (x, there, record { version = version; delegation = d; said = said; ends = of m (record { ends = other; is = refl }) }) (omega (arith, some)) in
              let now = later.now in
              omega (arith, is, was, comes, now)
        ]
  ]

  still_announced : (x : Entry) (d : Delegation) → IsAnnounced before x d → IsAnnounced after (aged_entry later.time x) d
  still_announced x d a = record {
    reachable = kept x a.reachable;
    version = a.version;
    said = a.said;
    live = lasts x d d.valid a.reachable a.version a.said (λ m end. inl end) a.live;
  }

  was_announced : (y : Entry) (d : Delegation) → IsAnnounced after y d → (x : Entry) × IsAnnounced before x d × (aged_entry later.time x ≡ y)
  was_announced y d a =
      let found = known y a.reachable in
      let same : IsAnnounced after (aged_entry later.time found.0) d = subst (λ (n : Entry). IsAnnounced after n d) (sym found.2) a in (
        found.0,
        record { reachable = found.1; version = same.version; said = same.said; live = remaining_before later.time found.0.age d.valid same.live },
        found.2,
      )

  still_candidate : (p : PlainPrefix) → IsAnnouncedPrefix before p → IsAnnouncedPrefix after p
  still_candidate p c = record { short = c.short; node = aged_entry later.time c.node; delegation = c.delegation; announced = still_announced c.node c.delegation c.announced; is_it = c.is_it }

  was_candidate : (p : PlainPrefix) → IsAnnouncedPrefix after p → IsAnnouncedPrefix before p
  was_candidate p c =
      let was = was_announced c.node c.delegation c.announced in
      record { short = c.short; node = was.0; delegation = c.delegation; announced = was.1; is_it = c.is_it }

  still_outermost : (p : PlainPrefix) → IsOutermost before p → IsOutermost after p
  still_outermost p o = record { candidate = still_candidate p o.candidate; not_inside = λ q c w. o.not_inside q (was_candidate q c) w }

  was_outermost : (p : PlainPrefix) → IsOutermost after p → IsOutermost before p
  was_outermost p o = record { candidate = was_candidate p o.candidate; not_inside = λ q c w. o.not_inside q (still_candidate q c) w }

  -- ---- lifetimes of a prefix

  module _ (p : PlainPrefix) (f : Delegation → ℕ) (small : (d : Delegation) → IsDelegation d → f d < 2 ^ 32) (ms : ℕ) (g : IsLongestLeft before p f ms) where
    fits : (x : Entry) (d : Delegation) → IsAnnounced before x d → f d < 2 ^ 32
    fits x d a = small d (said_in_range x.body d a.said)

    greatest_within : ms ≤ 2 ^ 64 - 1
    greatest_within = subst (λ (n : ℕ). n ≤ 2 ^ 64 - 1) (sym g.this) (remaining_within g.node.age (f g.delegation) (fits g.node g.delegation g.announced))

    this_later : left_after later.time ms ≡ remaining (g.node.age + later.time) (f g.delegation)
    this_later = ap (left_after later.time) g.this ∙ remaining_later later.time g.node.age (f g.delegation) (fits g.node g.delegation g.announced)

    not_greater : (x : Entry) (d : Delegation) → IsAnnounced before x d → d.prefix ≡ p → remaining (x.age + later.time) (f d) ≤ left_after later.time ms
    not_greater x d a e =
        let less = left_in_order later.time (remaining x.age (f d)) ms greatest_within (g.none_greater x d a e) in
        subst (λ (n : ℕ). n ≤ left_after later.time ms) (remaining_later later.time x.age (f d) (fits x d a)) less

    still_greatest : IsLongestLeft after p f (left_after later.time ms)
    still_greatest = record {
      node = aged_entry later.time g.node;
      delegation = g.delegation;
      announced = still_announced g.node g.delegation g.announced;
      is_it = g.is_it;
      this = this_later;
      none_greater = λ other d a e.
          let was = was_announced other d a in
          subst (λ (y : Entry). remaining y.age (f d) ≤ left_after later.time ms) was.2 (not_greater was.0 d was.1 e);
    }

    greatest_lasts : ((d : Delegation) (age m : ℕ) → IsEnd before.now age (f d) m → IsDelegationEnd before.now age d m) → 0 < ms → 0 < left_after later.time ms
    greatest_lasts of some =
        let a = g.announced in
        let was : 0 < remaining g.node.age (f g.delegation) = subst (λ (n : ℕ). 0 < n) g.this some in
        subst (λ (n : ℕ). 0 < n) (sym this_later) (lasts g.node g.delegation (f g.delegation) a.reachable a.version a.said (of g.delegation g.node.age) was)

  valid_small : (d : Delegation) → IsDelegation d → d.valid < 2 ^ 32
  valid_small d is = is.valid

  preferred_small : (d : Delegation) → IsDelegation d → d.preferred < 2 ^ 32
  preferred_small d is = is.preferred

  cut_later : (u : Delegated) (h : HasLifetimes before u) → left_after later.time u.preferred ≡ min (left_after later.time h.preferred) (left_after later.time u.valid)
  cut_later u h =
      ap (left_after later.time) h.cut
      ∙ left_of_both later.time h.preferred u.valid
      (greatest_within u.prefix (λ d. d.preferred) preferred_small h.preferred h.greatest_preferred)
      (greatest_within u.prefix (λ d. d.valid) valid_small u.valid h.greatest_valid)

  still_has : (u : Delegated) → HasLifetimes before u → HasLifetimes after (aged_delegated later.time u)
  still_has u h = record {
    preferred = left_after later.time h.preferred;
    greatest_valid = still_greatest u.prefix (λ d. d.valid) valid_small u.valid h.greatest_valid;
    greatest_preferred = still_greatest u.prefix (λ d. d.preferred) preferred_small h.preferred h.greatest_preferred;
    cut = cut_later u h;
  }

  preferred_lasts : (u : Delegated) → HasLifetimes before u → 0 < u.preferred → 0 < left_after later.time u.preferred
  preferred_lasts u h some =
      let cut = h.cut in
      let preferred = greatest_lasts u.prefix (λ d. d.preferred) preferred_small h.preferred h.greatest_preferred (λ d age m end. inr end) (omega (arith, cut, some)) in
      let valid = greatest_lasts u.prefix (λ d. d.valid) valid_small u.valid h.greatest_valid (λ d age m end. inl end) (omega (arith, cut, some)) in
      let is = cut_later u h in
      omega (arith, preferred, valid, is)

-- ---- the list

pub same_prefixes : AgedAreTheSamePrefixes
same_prefixes time [] = refl
same_prefixes time (u ∷ list) = ap (λ (ps : List PlainPrefix). u.prefix ∷ ps) (same_prefixes time list)

pub usable_later : UsableOfLater
usable_later before after later none list are =
    let after_list = map (aged_delegated later.time) list in
    let same = same_prefixes later.time list in
    let long : length after_list ≡ length list = length-map list (aged_delegated later.time) in
    let few = are.few in
    record {
      ascending = subst (IsStrictlySortedBy prefix_cmp) (sym same) are.ascending;
      few = omega (arith, few, long);
      outermost = all_of (λ v. IsOutermost after v.prefix) after_list (λ v h.
          let found = Contains-from_map (aged_delegated later.time) list v h in
          subst (λ (w : Delegated). IsOutermost after w.prefix) found.2
          (still_outermost before after later none found.0.prefix (All-contains (λ u. IsOutermost before u.prefix) list found.0 are.outermost found.1)));
      lifetimes = all_of (HasLifetimes after) after_list (λ v h.
          let found = Contains-from_map (aged_delegated later.time) list v h in
          subst (HasLifetimes after) found.2 (still_has before after later none found.0 (All-contains (HasLifetimes before) list found.0 are.lifetimes found.1)));
      first = λ p o. elim (are.first p (was_outermost before after later none p o)) [
        | inl there ↦ inl (subst (λ (ps : List PlainPrefix). Contains ps p) (sym same) there)
        | inr (full, past) ↦ inr (long ∙ full, subst (All (λ q. prefix_cmp q p ≡ Less)) (sym same) past)
      ];
    }

pub unwanted_later : UnwantedOfLater
unwanted_later before after later none list are i = (still, was)
  where
    still : IsUnwanted list i → IsUnwanted (map (aged_delegated later.time) list) i
    still h = record {
      deprecated = aged_delegated later.time h.deprecated;
      at = part_stands (aged_delegated later.time) list i h.deprecated h.at;
      ended = left_none later.time h.deprecated.preferred h.ended;
      other = aged_delegated later.time h.other;
      in_list = Contains-map (aged_delegated later.time) list h.other h.in_list;
      preferred = preferred_lasts before after later none h.other (All-contains (HasLifetimes before) list h.other are.lifetimes h.in_list) h.preferred;
    }

    ended_before : (u : Delegated) → Contains list u → left_after later.time u.preferred ≡ 0 → u.preferred ≡ 0
    ended_before u there ended = elim (cases_lt 0 u.preferred) [
      | inl some ↦ let more = preferred_lasts before after later none u (All-contains (HasLifetimes before) list u are.lifetimes there) some in omega (arith, more, ended)
      | inr rest ↦ omega (arith, rest)
    ]

    preferred_before : (u : Delegated) → 0 < left_after later.time u.preferred → 0 < u.preferred
    preferred_before u some = elim (cases_lt 0 u.preferred) [
      | inl more ↦ more
      | inr rest ↦ let ended = left_none later.time u.preferred (omega (arith, rest)) in omega (arith, some, ended)
    ]

    was : IsUnwanted (map (aged_delegated later.time) list) i → IsUnwanted list i
    was h =
        let found = part_at (aged_delegated later.time) list i h.deprecated h.at in
        let other = Contains-from_map (aged_delegated later.time) list h.other h.in_list in
        record {
          deprecated = found.0;
          at = found.1;
          ended = ended_before found.0 (contains_at list i found.0 found.1) (ap (λ (u : Delegated). u.preferred) found.2 ∙ h.ended);
          other = other.0;
          in_list = other.1;
          preferred = preferred_before other.0 (subst (λ (u : Delegated). 0 < u.preferred) (sym other.2) h.preferred);
        }
