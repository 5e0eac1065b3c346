-- A router advertises one thing on an endpoint.
use Rattle.hn_base.proofs.Names.{◌≡◌, ◌↔◌, ℕ, List, Option, sym, ◌∙◌, ap, subst, ⊎_elim, Contains, MatchOption, on, on_total, prefix_cmp}
use Rattle.hn_router.proofs.Names.{is_some, sorted_parts, EpId, NodeId, Letter, H, Info, advert_bytes, Delegated, IsOutside, IsElected, HasNoCandidate, State, seen_by, IsElectedAt, IsInfoOf, AreInfos}
use Rattle.hn_router.proofs.Names.{IsLifetime, IsAdvertBytes, prefix_total}
use Rattle.hn_base.proofs.AscendingLists.{ascending_unique}
use Rattle.hn_advert.specs.declared.advert.Advert.{Advert}
use Rattle.hn_deleg.specs.Laws.{UsableIsUnique}
use Rattle.hn_link.specs.Election.{HasOneAnswer}
use Rattle.hn_link.specs.Laws.{CommonLinkIsUnique}
use Rattle.hn_router.specs.Advertising.{IsAdvertAt}

-- whether somebody is elected has one answer
one_flag : CommonLinkIsUnique → HasOneAnswer → (s : State) (e : EpId) (letter : Letter) (a b : Option NodeId) → IsElectedAt s e letter a → IsElectedAt s e letter b → is_some a ≡ is_some b
one_flag one_link one_answer s e letter a b f g =
    let same : g.common ≡ f.common = one_link (seen_by s) e.0 g.common f.common g.is_common f.is_common in
    let who = one_answer (seen_by s) f.common letter a b f.is_elected
    (subst (λ (c : List (NodeId × EpId)). MatchOption b (HasNoCandidate (seen_by s) c letter) (IsElected (seen_by s) c letter)) same g.is_elected) in
    ap (λ (o : Option NodeId). is_some o) who

one_lifetime : (s : State) (m n : ℕ) → IsLifetime s m → IsLifetime s n → m ≡ n
one_lifetime s m n f g =
    ⊎_elim (λ (there : IsOutside (seen_by s) × (m ≡ 1800)).
    ⊎_elim (λ (too : IsOutside (seen_by s) × (n ≡ 1800)). there.1 ∙ sym too.1) (λ (none : ¬ IsOutside (seen_by s) × (n ≡ 0)). absurd (none.0 there.0)) g)
    (λ (away : ¬ IsOutside (seen_by s) × (m ≡ 0)).
    ⊎_elim (λ (too : IsOutside (seen_by s) × (n ≡ 1800)). absurd (away.0 too.0)) (λ (none : ¬ IsOutside (seen_by s) × (n ≡ 0)). away.1 ∙ sym none.1) g)
    f

one_infos : UsableIsUnique → (s : State) (e : EpId) (a b : List Info) → AreInfos s e a → AreInfos s e b → a ≡ b
one_infos one_usable s e a b f g =
    let same : g.usable ≡ f.usable = one_usable (seen_by s) g.usable f.usable g.are_usable f.are_usable in
    let each : (i : Info) → Contains b i ↔ IsInfoOf s f.usable e i = subst (λ (u : List Delegated). (i : Info) → Contains b i ↔ IsInfoOf s u e i) same g.each in
    ascending_unique (on (λ i. i.prefix) prefix_cmp) (on_total (λ i. i.prefix) prefix_total) a b
    ((sorted_parts (λ (i : Info). i.prefix) prefix_cmp a).1 f.ascending) ((sorted_parts (λ (i : Info). i.prefix) prefix_cmp b).1 g.ascending)
    (λ i. (λ h. (each i).1 ((f.each i).0 h), λ h. (f.each i).1 ((each i).0 h)))

one_advert : UsableIsUnique → CommonLinkIsUnique → HasOneAnswer → (s : State) (e : EpId) (a b : Advert) → IsAdvertAt s e a → IsAdvertAt s e b → a ≡ b
one_advert one_usable one_link one_answer s e a b f g =
    let who : is_some f.who ≡ is_some g.who = one_flag one_link one_answer s e H f.who g.who f.is_elected g.is_elected in
    let managed : a.managed ≡ b.managed = f.managed ∙ who ∙ sym g.managed in
    let other : a.other ≡ b.other = f.other ∙ who ∙ sym g.other in
    let lifetime : a.lifetime ≡ b.lifetime = one_lifetime s a.lifetime b.lifetime f.lifetime g.lifetime in
    let infos : a.infos ≡ b.infos = one_infos one_usable s e a.infos b.infos f.infos g.infos in
    λ k. record { managed = managed k; other = other k; lifetime = lifetime k; infos = infos k }

pub one_bytes : UsableIsUnique → CommonLinkIsUnique → HasOneAnswer → (s : State) (e : EpId) (a b : List ℕ) → IsAdvertBytes s e a → IsAdvertBytes s e b → a ≡ b
one_bytes one_usable one_link one_answer s e a b f g = f.2 ∙ ap advert_bytes (one_advert one_usable one_link one_answer s e f.0 g.0 f.1 g.1) ∙ sym g.2
