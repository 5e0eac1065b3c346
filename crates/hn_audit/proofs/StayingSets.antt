-- Where each router of the set of a settled router stays as others see it, the router stays settled.
use Rattle.hn_base.proofs.Names.{◌≡◌, ◌∙◌, ◌↔◌, ℕ, IsTrue, List, Some, Contains, sym, ap, subst, count_by, find, option_map, All-weaker, slice_get-get_or}
use Rattle.hn_audit.proofs.Names.{All, slice_get, contains_at, EpId, NodeId, AreAssignmentsUnchanged, IsLinked, UsableIsUnique, PlainData, held, State, Attachment, Member, Parts, is_of, IsQuietByRules}
use Rattle.hn_audit.proofs.Names.{IsRouterAtRest, runs_as, IsRunning, IsOfOne, IsReached, IsOnLink, HoldsState, UseSame, AreLinkedByRules, IsSettledByRules, IsMemberAt, KeepAssignments}
use Rattle.hn_audit.proofs.EqualInPlace.{same_back, use_same_too}

-- a router of the world is the same one
pub record IsKept (m next : Member) : Type 0 where
  pub running : next.running ≡ m.running
  pub attachments : next.attachments ≡ m.attachments
  pub id : next.router.id ≡ m.router.id

-- a router of the set is as others see it, and at rest
pub record IsSeenAsBefore (s next : State) : Type 0 where
  pub number : next.number ≡ s.number
  pub own : next.own ≡ s.own
  pub reach : next.reach ≡ s.reach
  pub known : (id : NodeId) → Contains s.reach id → held next.table.entries id.0 ≡ held s.table.entries id.0
  pub used : UseSame s next
  pub assigned : AreAssignmentsUnchanged s.held.assigned next.held.assigned
  pub rests : IsRouterAtRest next

-- each router of the world is the same one, and each of the set of r is so
pub record AreSeenAsBefore (before after : Parts) (r : Member) : Type 0 where
  pub kept : (place : ℕ) (m next : Member) → IsMemberAt place before after m next → IsKept m next
  pub still : (place : ℕ) (m next : Member) → IsMemberAt place before after m next → IsReached before r m → IsSeenAsBefore m.router next.router
  pub was : (place : ℕ) (next : Member) → slice_get after.members place ≡ Some next → (m : Member) × IsMemberAt place before after m next
  pub count : (id : NodeId) → count_by (runs_as id) after.members ≡ count_by (runs_as id) before.members

use_back : (s u : State) → UseSame s u → UseSame u s
use_back s u same = record { one = same.other; is_one = same.is_other; other = same.one; is_other = same.is_one; same = same_back same.one same.other same.same }

module _ (unique : UsableIsUnique) (before after : Parts) (r next : Member) (place : ℕ) (here : IsMemberAt place before after r next) (are : AreSeenAsBefore before after r)
    (itself : IsReached before r r) (settled : IsSettledByRules before r) where
  r_still : IsSeenAsBefore r.router next.router
  r_still = are.still place r next here itself

  on_link : (link : ℕ) (m m' : Member) (e : EpId) → IsKept m m' → IsOnLink link m' e → IsOnLink link m e
  on_link link m m' e kept on = subst (λ (list : List Attachment). option_map (λ (a : Attachment). a.link) (find (is_of e) list) ≡ Some link) kept.attachments on

  on_link_too : (link : ℕ) (m m' : Member) (e : EpId) → IsKept m m' → IsOnLink link m e → IsOnLink link m' e
  on_link_too link m m' e kept on = subst (λ (list : List Attachment). option_map (λ (a : Attachment). a.link) (find (is_of e) list) ≡ Some link) (sym kept.attachments) on

  -- the router that it was
  record WasRunning (m' : Member) : Type 0 where
    pub m : Member
    pub spot : ℕ
    pub at : IsMemberAt spot before after m m'
    pub kept : IsKept m m'
    pub runs : IsRunning before m

  was_running : (m' : Member) → IsRunning after m' → WasRunning m'
  was_running m' runs =
      let (k, within, is) = runs.there in
      let at : slice_get after.members k ≡ Some m' = slice_get-get_or after.members k m' within ∙ ap Some is in
      let (m, both) = are.was k m' at in
      let kept = are.kept k m m' both in
      record { m = m; spot = k; at = both; kept = kept; runs = record { there = contains_at before.members k m both.was; running = subst IsTrue kept.running runs.running } }

  record WasReached (m' : Member) : Type 0 where
    pub m : Member
    pub spot : ℕ
    pub at : IsMemberAt spot before after m m'
    pub kept : IsKept m m'
    pub reached : IsReached before r m
    pub still : IsSeenAsBefore m.router m'.router

  was_reached : (m' : Member) → IsReached after next m' → WasReached m'
  was_reached m' is =
      let was = was_running m' is.runs in
      let same : Contains r.router.reach m'.router.id = subst (λ (ids : List NodeId). Contains ids m'.router.id) r_still.reach is.reached in
      let reached : IsReached before r was.m = record { runs = was.runs; reached = subst (Contains r.router.reach) was.kept.id same } in
      record { m = was.m; spot = was.spot; at = was.at; kept = was.kept; reached = reached; still = are.still was.spot was.m m' was.at reached }

  -- it is reached if and only if it was
  reached_now : (k : ℕ) (m m' : Member) → IsMemberAt k before after m m' → IsReached before r m → IsReached after next m'
  reached_now k m m' at is =
      let kept = are.kept k m m' at in
      record {
        runs = record { there = contains_at after.members k m' at.is; running = subst IsTrue (sym kept.running) is.runs.running };
        reached = subst (λ (ids : List NodeId). Contains ids m'.router.id) (sym r_still.reach) (subst (Contains r.router.reach) (sym kept.id) is.reached);
      }

  reached_before : (k : ℕ) (m m' : Member) → IsMemberAt k before after m m' → IsReached after next m' → IsReached before r m
  reached_before k m m' at is =
      let kept = are.kept k m m' at in
      record {
        runs = record { there = contains_at before.members k m at.was; running = subst IsTrue kept.running is.runs.running };
        reached = subst (Contains r.router.reach) kept.id (subst (λ (ids : List NodeId). Contains ids m'.router.id) r_still.reach is.reached);
      }

  -- ---- settled

  holds_now : (s s' u u' : Member) → IsSeenAsBefore s.router s'.router → IsSeenAsBefore u.router u'.router → IsKept u u' → Contains s.router.reach u.router.id
      → HoldsState s.router u.router → HoldsState s'.router u'.router
  holds_now s s' u u' s_still u_still u_kept reaches holds = record {
    stored = holds.stored;
    is_held = ap (λ (id : NodeId). held s'.router.table.entries id.0) u_kept.id ∙ s_still.known u.router.id reaches ∙ holds.is_held;
    number = holds.number ∙ sym u_still.number;
    body = holds.body ∙ sym (ap (λ (own : PlainData). own.body) u_still.own);
  }

  use_now : (s s' u u' : State) → UseSame s s' → UseSame s u → UseSame u u' → UseSame s' u'
  use_now s s' u u' s_same same u_same = use_same_too unique u s' u' (use_back s' u (use_same_too unique s s' u s_same same)) u_same

  links_are : (s s' u u' : Member) (e f : EpId) → IsKept s s' → IsKept u u' → IsSeenAsBefore s.router s'.router → IsSeenAsBefore u.router u'.router
      → AreLinkedByRules s'.router e u'.router f ↔ AreLinkedByRules s.router e u.router f
  links_are s s' u u' e f s_kept u_kept s_still u_still =
      let P : NodeId → PlainData → NodeId → PlainData → Type 0 = λ s_id s_own u_id u_own. IsLinked s_own.body s_id.0 e.0 u_own.body u_id.0 f.0 in (
        λ linked.
            subst (λ (id : NodeId). P s.router.id s.router.own id u.router.own) u_kept.id
            (subst (λ (own : PlainData). P s.router.id s.router.own u'.router.id own) u_still.own
            (subst (λ (id : NodeId). P id s.router.own u'.router.id u'.router.own) s_kept.id (subst (λ (own : PlainData). P s'.router.id own u'.router.id u'.router.own) s_still.own linked))),
        λ linked.
            subst (λ (own : PlainData). P s'.router.id own u'.router.id u'.router.own) (sym s_still.own)
            (subst (λ (id : NodeId). P id s.router.own u'.router.id u'.router.own) (sym s_kept.id)
            (subst (λ (own : PlainData). P s.router.id s.router.own u'.router.id own) (sym u_still.own) (subst (λ (id : NodeId). P s.router.id s.router.own id u.router.own) (sym u_kept.id) linked))),
      )

  pub settled_now : IsSettledByRules after next
  settled_now = record {
    known = subst (All (IsOfOne after)) (sym r_still.reach) (All-weaker (IsOfOne before) (IsOfOne after) (λ id one. are.count id ∙ one) r.router.reach settled.known);
    same_reach = λ s' is. let s = was_reached s' is in s.still.reach ∙ settled.same_reach s.m s.reached ∙ sym r_still.reach;
    held = λ s' u' s_is u_is differ.
        let s = was_reached s' s_is in
        let u = was_reached u' u_is in
        holds_now s.m s' u.m u' s.still u.still u.kept (subst (λ (ids : List NodeId). Contains ids u.m.router.id) (sym (settled.same_reach s.m s.reached)) u.reached.reached)
        (settled.held s.m u.m s.reached u.reached (λ same. differ (s.kept.id ∙ same ∙ sym u.kept.id)));
    used = λ s' u' s_is u_is.
        let s = was_reached s' s_is in
        let u = was_reached u' u_is in
        use_now s.m.router s'.router u.m.router u'.router s.still.used (settled.used s.m u.m s.reached u.reached) u.still.used;
    no_strangers = λ m' s' e f runs s_is both.
        let m = was_running m' runs in
        let s = was_reached s' s_is in
        reached_now m.spot m.m m' m.at
        (settled.no_strangers m.m s.m e f m.runs s.reached (record { link = both.link; one = on_link both.link m.m m' e m.kept both.one; other = on_link both.link s.m s' f s.kept both.other }));
    linked = λ s' u' e f s_is u_is differ.
        let s = was_reached s' s_is in
        let u = was_reached u' u_is in
        let were = settled.linked s.m u.m e f s.reached u.reached (λ same. differ (s.kept.id ∙ same.0 ∙ sym u.kept.id, same.1)) in
        let links = links_are s.m s' u.m u' e f s.kept u.kept s.still u.still in (
          λ linked.
              let both = were.0 (links.0 linked) in
              record { link = both.link; one = on_link_too both.link s.m s' e s.kept both.one; other = on_link_too both.link u.m u' f u.kept both.other },
          λ both.
              links.1 (were.1 (record { link = both.link; one = on_link both.link s.m s' e s.kept both.one; other = on_link both.link u.m u' f u.kept both.other })),
        );
  }

  pub quiet_now : IsQuietByRules after next
  quiet_now s' is = (was_reached s' is).still.rests

  pub kept_now : KeepAssignments before after r next
  kept_now k s then at = ((reached_now k s then at, reached_before k s then at), λ is. (are.still k s then at is).assigned)
