-- In the set of a settled router whose routers are still one router at most has a generated prefix.
use Rattle.hn_base.proofs.Names.{◌≡◌, ◌∙◌, ◌<◌, ◌≤◌, ℕ, Bool, false, IsTrue, List, [], ◌∷◌, Contains, filter, refl, sym, ap, subst, inl, inr, arith, count_by, and_from, cases_Bool, cases_lt, eqb-true}
use Rattle.hn_base.proofs.Names.{eq-eqb, false≢true, not_from_Decides, All-contains, PlainPrefix}
use Rattle.hn_lab.proofs.Names.{◌==◌, ◌↔◌, NodeId, nothing_in, Contains-head, Contains-tail, Contains-cases, in_filter, same_node, HasVersion, ViewIsNetwork, EntriesAreAsKnown}
use Rattle.hn_lab.proofs.Names.{seen_by, IsOwnOf, Member, Parts, IsReached, is_in_set, HasGenerated, HaveGenerated, ArePrefixesStill, IsUlaCount}
use Rattle.hn_base.proofs.Elements.{from_filter}
use Rattle.hn_base.proofs.Prefixes.{is_one_prefix, prefix_decided}
use Rattle.hn_data.specs.Delegations.{HasDelegation}
use Rattle.hn_data.specs.declared.said.Delegation.{Delegation}
use Rattle.hn_ula.specs.Ula.{IsGenerated, IsForeign, IsLocal}
use Rattle.hn_audit.specs.Reached.{IsOfOne, runs_as}
use Rattle.hn_lab.proofs.Sets.{IsKnown, seen_of, in_set, itself, reached_of}
use Rattle.hn_lab.proofs.UlaCounts.{counted_by, fewer, some_or_none}

-- ---- the greatest identifier

pub record IsGreatest (xs : List NodeId) (x : NodeId) : Type 0 where
  pub among : Contains xs x
  pub greatest : (y : NodeId) → Contains xs y → y.0 ≤ x.0

greatest_in : (x : NodeId) (xs : List NodeId) → (g : NodeId) × IsGreatest (x ∷ xs) g
greatest_in x [] = (
  x,
  record {
    among = Contains-head x [];
    greatest = λ y there. elim (Contains-cases x [] y there) [
      | inl same ↦ (let is : x.0 ≡ y.0 = ap (λ (id : NodeId). id.0) same in omega (arith, is))
      | inr later ↦ absurd (nothing_in y later)
    ];
  },
)
greatest_in x (z ∷ zs) =
    let g = greatest_in z zs in
    elim (cases_lt x.0 g.0.0) [
      | inl below ↦ (
        g.0,
        record {
          among = Contains-tail x (z ∷ zs) g.0 g.1.among;
          greatest = λ y there. elim (Contains-cases x (z ∷ zs) y there) [
            | inl same ↦ (let is : x.0 ≡ y.0 = ap (λ (id : NodeId). id.0) same in omega (arith, is, below))
            | inr later ↦ g.1.greatest y later
          ];
        },
      )
      | inr above ↦ (
        x,
        record {
          among = Contains-head x (z ∷ zs);
          greatest = λ y there. elim (Contains-cases x (z ∷ zs) y there) [
            | inl same ↦ (let is : x.0 ≡ y.0 = ap (λ (id : NodeId). id.0) same in omega (arith, is))
            | inr later ↦ (let less = g.1.greatest y later in omega (arith, less, above))
          ];
        },
      )
    ]

greatest_of : (xs : List NodeId) (x : NodeId) → Contains xs x → (g : NodeId) × IsGreatest xs g
greatest_of [] x there = absurd (nothing_in x there)
greatest_of (y ∷ ys) x there = greatest_in y ys

-- ---- who has a generated prefix

module _ (network : ViewIsNetwork) (entries : EntriesAreAsKnown) (w : Parts) (r : Member) (known : IsKnown w r) (still : ArePrefixesStill w r) where
  abbrev members : List Member
  members = filter (is_in_set r.router.reach) w.members

  listed : (s : Member) → IsReached w r s → Contains members s
  listed s s_in = in_filter (is_in_set r.router.reach) w.members s s_in.runs.there ((in_set r.router.reach s).1 (s_in.runs.running, s_in.reached))

  reached : (s : Member) → Contains members s → IsReached w r s
  reached s there =
      let from = from_filter (is_in_set r.router.reach) w.members s there in
      reached_of w r s from.0 from.1

  -- what one of the set publishes is, to each of it, a generated prefix of that node
  published : (s u : Member) (p : PlainPrefix) (d : Delegation) → IsReached w r s → IsReached w r u → HasVersion u.router.own.body
      → HasDelegation u.router.own.body d → d.prefix ≡ p → p.len ≡ 48 → IsLocal p → IsGenerated (seen_by s.router) u.router.id.0 p
  published s u p d s_in u_in version says prefix_is long local =
      let seen = (seen_of w r known s s_in).each_member u u_in in
      record {
        entry = seen.0;
        reachable = seen.1;
        is_it = ap (λ (id : NodeId). id.0) seen.2;
        version = subst HasVersion (sym seen.3) version;
        delegation = d;
        says = subst (λ body. HasDelegation body d) (sym seen.3) says;
        prefix_is = prefix_is;
        long = long;
        local = local;
      }

  -- and what one of it sees as generated, one of the set has
  of_somebody : (s : Member) (node : ℕ) (p : PlainPrefix) → IsReached w r s → IsGenerated (seen_by s.router) node p → (u : Member) × IsReached w r u
      × (u.router.id.0 ≡ node) × ((v : Member) → IsReached w r v → IsGenerated (seen_by v.router) u.router.id.0 p)
  of_somebody s node p s_in g =
      let from = (seen_of w r known s s_in).nobody_else g.entry g.reachable in (
        from.0,
        from.1,
        sym (ap (λ (id : NodeId). id.0) from.2) ∙ g.is_it,
        λ v v_in. published v from.0 p g.delegation v_in from.1 (subst HasVersion from.3 g.version) (subst (λ body. HasDelegation body g.delegation) from.3 g.says) g.prefix_is g.long g.local,
      )

  seen_from : (s u : Member) (p : PlainPrefix) → IsReached w r s → IsReached w r u → IsOwnOf u.router p → IsGenerated (seen_by s.router) u.router.id.0 p
  seen_from s u p s_in u_in own =
      let who = of_somebody u u.router.id.0 p u_in own in
      subst (λ node. IsGenerated (seen_by s.router) node p) who.2 (who.3 s s_in)

  not_above : (s u : Member) → IsReached w r s → IsReached w r u → HasGenerated s → HasGenerated u → ¬ (s.router.id.0 < u.router.id.0)
  not_above s u s_in u_in has has_too above =
      (still.1 s s_in).0 (record { one = has.0; has = has.1; because = inr (u.router.id.0, has_too.0, above, seen_from s u has_too.0 s_in u_in has_too.1) })

  one_id : (s u : Member) → IsReached w r s → IsReached w r u → HasGenerated s → HasGenerated u → s.router.id.0 ≡ u.router.id.0
  one_id s u s_in u_in has has_too =
      elim (cases_lt s.router.id.0 u.router.id.0) [
        | inl above ↦ absurd (not_above s u s_in u_in has has_too above)
        | inr not_above_s ↦ elim (cases_lt u.router.id.0 s.router.id.0) [
          | inl above ↦ absurd (not_above u s u_in s_in has_too has above)
          | inr not_above_u ↦ omega (arith, not_above_s, not_above_u)
        ]
      ]

  one_prefix : (s : Member) (p q : PlainPrefix) → IsReached w r s → IsOwnOf s.router p → IsOwnOf s.router q → p ≡ q
  one_prefix s p q s_in own own_too =
      elim (cases_Bool (is_one_prefix p q)) [
        | inl same ↦ (prefix_decided p q).0 same
        | inr other ↦ absurd ((still.1 s s_in).1 (p, q, own, own_too, not_from_Decides (is_one_prefix p q) (prefix_decided p q) other))
      ]

  -- ---- one has it

  abbrev is_it : Member → Member → Bool
  is_it m s = s.router.id.0 == m.router.id.0

  it_has : (m : Member) → IsReached w r m → HasGenerated m → (s : Member) → Contains members s → IsTrue (is_it m s) ↔ HasGenerated s
  it_has m m_in has s there = (
    λ is. subst HasGenerated ((seen_of w r known m m_in).one_of_an_id m s m_in (reached s there) (same_node m.router.id s.router.id (sym (eqb-true s.router.id.0 m.router.id.0 is)))) has,
    λ has_too. eq-eqb s.router.id.0 m.router.id.0 (one_id s m (reached s there) m_in has_too has),
  )

  at_most_one : (m : Member) → IsReached w r m → (n : ℕ) → n ≡ count_by (is_it m) members → n ≤ 1
  at_most_one m m_in n counted =
      let less : count_by (is_it m) members ≤ count_by (runs_as m.router.id) w.members =
      fewer (is_it m) (runs_as m.router.id) (is_in_set r.router.reach) w.members
      (λ s there in_it is. and_from s.running (s.router.id.0 == m.router.id.0) ((in_set r.router.reach s).0 in_it).0 is) in
      let once : IsOfOne w m.router.id = All-contains (IsOfOne w) r.router.reach m.router.id known.settled.known m_in.reached in
      omega (arith, counted, less, once)

  of_one : (n : ℕ) → HaveGenerated members n → (m : Member) → Contains members m → HasGenerated m → 1 ≤ n → IsUlaCount w r n
  of_one n have m there has some =
      let m_in = reached m there in
      let counted = counted_by (is_it m) members n (it_has m m_in has) have in
      let most = at_most_one m m_in n counted in
      record {
        members = members;
        are = refl;
        has = is_it m;
        has_is = it_has m m_in has;
        counted = counted;
        at_most = λ _. (most, one_prefix);
        exactly = λ _ no_foreign. omega (arith, most, some);
      }

  -- ---- none has it: then the greatest would announce one, unless somebody sees a foreign prefix

  not_nobody : ((s : Member) → Contains members s → ¬ HasGenerated s) → ¬ ((s : Member) → IsReached w r s → ¬ IsForeign (seen_by s.router))
  not_nobody none no_foreign =
      let r_in = itself network entries w r known in
      let g = greatest_of r.router.reach r.router.id r_in.reached in
      let who = (seen_of w r known r r_in).reach_is_theirs g.0 g.1.among in
      let u = who.0 in
      let u_in = who.1 in
      let greatest : (id : NodeId) → Contains u.router.reach id → id.0 ≤ u.router.id.0 =
      λ id there. subst (λ (x : NodeId). id.0 ≤ x.0) (sym who.2) (g.1.greatest id (subst (λ (ids : List NodeId). Contains ids id) (known.settled.same_reach u u_in) there)) in
      (still.1 u u_in).2 (record {
        none = λ node p is. let v = of_somebody u node p u_in is in none v.0 (listed v.0 v.1) (p, v.3 v.0 v.1);
        no_better = no_foreign u u_in;
        greatest = greatest;
      })

  of_none : (n : ℕ) → HaveGenerated members n → ((s : Member) → Contains members s → ¬ HasGenerated s) → n ≡ 0 → IsUlaCount w r n
  of_none n have none is_none =
      let has_is : (s : Member) → Contains members s → IsTrue false ↔ HasGenerated s = λ s there. (λ h. absurd (false≢true h), λ h. absurd (none s there h)) in
      record {
        members = members;
        are = refl;
        has = λ _. false;
        has_is = has_is;
        counted = counted_by (λ _. false) members n has_is have;
        at_most = λ _. (omega (arith, is_none), one_prefix);
        exactly = λ _ no_foreign. absurd (not_nobody none no_foreign);
      }

  pub ula_count : (n : ℕ) → HaveGenerated members n → IsUlaCount w r n
  ula_count n have =
      elim (some_or_none members n have) [
        | inl found ↦ of_one n have found.0 found.1 found.2 found.3
        | inr none ↦ of_none n have none.0 none.1
      ]
