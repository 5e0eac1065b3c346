-- A report tells one thing.
use Rattle.hn_base.proofs.Names.{◌≡◌, ◌∙◌, ◌⊎◌, inl, inr, ℕ, Bool, true, false, List, [], ◌∷◌, refl, sym, ap, subst, MatchOption, decimal, length-filter, same_Some, name_text, PlainPrefix}
use Rattle.hn_lab.proofs.Names.{◌↔◌, IsTrue, Contains, codes, Contains-head, Contains-tail, EpId, NodeId, Letter, Name, seen_by, IsOwnOf, Member, Parts, About, Report, IsAddressed}
use Rattle.hn_lab.proofs.Names.{IsAddressedLine, IsAdvertLine, advert_line, IsAudited, IsAuditLine, audit_line, ResultsAreUnique, AreUsedLines, used_lines, IsElectLine, elect_line, Tells}
use Rattle.hn_lab.proofs.Names.{Compares, mail_report, unless_report, IsAbout, IsReport, ReportEnds, compare_line, show_line, hash_line, Stage, Reports, IsUlaCount, IsUlasTold, IsUlasLine}
use Rattle.std.specs.Prelude.{◌++◌, cond, count_by, length, filter}
use Rattle.hn_link.specs.Election.{IsElected, HasNoCandidate}
use Rattle.hn_world.specs.Laws.{AgreementIsUnique}
use Rattle.hn_lab.specs.declared.report.About.TheVariants as about
use Rattle.hn_lab.specs.declared.report.Report.TheVariants as report
use Rattle.hn_report.specs.RouterReports.{IsCompareLine}
use Rattle.hn_lab.proofs.LawAlike.{IsSole, sole_at}
use Rattle.hn_lab.proofs.LawTells.{IsOneReport, one_line, sole_reports}
use Rattle.hn_rules.specs.Nodes.{leaves_of}

-- what is told in so many words
one_same : {A : Type 0} (told : A) → IsOneReport (λ (l : A). l ≡ told)
one_same told = record { one = λ l k is other. is ∙ sym other }

-- of three cases that exclude each other
one_of_three : {A : Type 0} (P Q R : A → Type 0) → ((l k : A) → P l → Q k → ⊥) → ((l k : A) → P l → R k → ⊥) → ((l k : A) → Q l → R k → ⊥)
    → IsOneReport P → IsOneReport Q → IsOneReport R → IsOneReport (λ l. P l ⊎ (Q l ⊎ R l))
one_of_three {A} P Q R pq pr qr p q r = record { one = once }
  where
    once : (l k : A) → P l ⊎ (Q l ⊎ R l) → P k ⊎ (Q k ⊎ R k) → l ≡ k
    once l k (inl is) (inl other) = p.one l k is other
    once l k (inl is) (inr (inl other)) = absurd (pq l k is other)
    once l k (inl is) (inr (inr other)) = absurd (pr l k is other)
    once l k (inr (inl is)) (inl other) = absurd (pq k l other is)
    once l k (inr (inl is)) (inr (inl other)) = q.one l k is other
    once l k (inr (inl is)) (inr (inr other)) = absurd (qr l k is other)
    once l k (inr (inr is)) (inl other) = absurd (pr k l other is)
    once l k (inr (inr is)) (inr (inl other)) = absurd (qr k l other is)
    once l k (inr (inr is)) (inr (inr other)) = r.one l k is other

-- ---- of a router

-- a report on the router of a name
one_tells : {A : Type 0} (name : Name) (w : Parts) (report : Member → A → Type 0) → ((m : Member) → IsOneReport (report m)) → IsOneReport (Tells name w report)
one_tells {A} name w report each = record { one = once }
  where
    once : (l k : A) → Tells name w report l → Tells name w report k → l ≡ k
    once l k is other =
        let same : other.0 ≡ is.0 = same_Some other.0 is.0 (sym other.1 ∙ is.1) in
        (each is.0).one l k is.2 (subst (λ (m : Member). report m k) same other.2)

one_used : ResultsAreUnique → (name : Name) (m : Member) → IsOneReport (AreUsedLines name m)
one_used unique name m = record {
  one = λ l k is other. is.lines_are ∙ ap (used_lines name) (unique.usable (seen_by m.router) is.used other.used is.are_usable other.are_usable) ∙ sym other.lines_are;
}

-- who is elected
one_elect : ResultsAreUnique → (name : Name) (e : EpId) (letter : Letter) (m : Member) → IsOneReport (IsElectLine name e letter m)
one_elect unique name e letter m = record { one = once }
  where
    once : (l k : List ℕ) → IsElectLine name e letter m l → IsElectLine name e letter m k → l ≡ k
    once l k is other =
        let common = unique.common (seen_by m.router) e.0 other.is_elected.common is.is_elected.common other.is_elected.is_common is.is_elected.is_common in
        let elected = subst (λ (link : List (NodeId × EpId)).
        MatchOption other.who (HasNoCandidate (seen_by m.router) link letter) (IsElected (seen_by m.router) link letter)) common other.is_elected.is_elected in
        let who = unique.answer (seen_by m.router) is.is_elected.common letter is.who other.who is.is_elected.is_elected elected in
        is.line_is ∙ ap (elect_line name e letter) who ∙ sym other.line_is

one_advert : ResultsAreUnique → (name : Name) (e : EpId) (m : Member) → IsOneReport (IsAdvertLine name e m)
one_advert unique name e m = record {
  one = λ l k is other. is.line_is ∙ ap (advert_line name e) (unique.adverts m.router e is.bytes other.bytes is.are_bytes other.are_bytes) ∙ sym other.line_is;
}

-- what an audit tells
one_audited : (w : Parts) (m : Member) → IsOneReport (IsAudited w m)
one_audited w m = one_of_three _ _ _ (λ l k is other. is.0 other.0) (λ l k is other. is.0 other.0) (λ l k is other. is.1 other.1)
    (record { one = λ l k is other. is.1 ∙ sym other.1 }) (record { one = λ l k is other. is.2 ∙ sym other.2 }) (record { one = λ l k is other. is.3 ∙ sym other.3 })

one_audit : (name : Name) (w : Parts) (m : Member) → IsOneReport (IsAuditLine name w m)
one_audit name w m = record {
  one = λ l k is other. is.line_is ∙ ap (audit_line name) ((one_audited w m).one is.told other.told is.is_audited other.is_audited) ∙ sym other.line_is;
}

-- what is told of addresses
one_told_addressed : (w : Parts) (m : Member) → IsOneReport (IsAddressed w m)
one_told_addressed w m = one_of_three _ _ _ (λ l k is other. is.0 other.0) (λ l k is other. is.0 other.0.0) (λ l k is other. is.1 other.0)
    (record { one = λ l k is other. is.1 ∙ sym other.1 }) (record { one = λ l k is other. is.2 ∙ sym other.2 }) (record { one = λ l k is other. is.2 ∙ sym other.2 })

one_addressed : (name : Name) (w : Parts) (m : Member) → IsOneReport (IsAddressedLine name w m)
one_addressed name w m = record {
  one = λ l k is other.
      let same = (one_told_addressed w m).one is.told other.told is.is_addressed other.is_addressed in
      is.line_is ∙ ap (λ (told : List ℕ). codes "addressed " ++ name_text name ++ codes " " ++ told ++ 10 ∷ []) same ∙ sym other.line_is;
}

-- ---- of the delegated prefixes of routers' own making

-- two answers to one question
pub same_answer : (a b : Bool) (P : Type 0) → IsTrue a ↔ P → IsTrue b ↔ P → a ≡ b
same_answer true true P h k = refl
same_answer true false P h k = sym (k.1 (h.0 refl))
same_answer false true P h k = h.1 (k.0 refl)
same_answer false false P h k = refl

-- tests that answer alike let the same pass
same_passed : {X : Type 0} (f g : X → Bool) (xs : List X) → ((x : X) → Contains xs x → f x ≡ g x) → filter f xs ≡ filter g xs
same_passed f g [] alike = refl
same_passed f g (x ∷ xs) alike =
    let head : f x ≡ g x = alike x (Contains-head x xs) in
    let tail : filter f xs ≡ filter g xs = same_passed f g xs (λ y there. alike y (Contains-tail x xs y there)) in
    λ i. cond (head i) (x ∷ tail i) (tail i)

-- of each member of the set it is decided whether it has one, so the count is one
one_count : (w : Parts) (m : Member) (n k : ℕ) → IsUlaCount w m n → IsUlaCount w m k → n ≡ k
one_count w m n k is other =
    let members : other.members ≡ is.members = other.are ∙ sym is.are in
    let counted : k ≡ count_by other.has is.members = subst (λ (xs : List Member). k ≡ count_by other.has xs) members other.counted in
    let decided : (s : Member) → Contains is.members s → IsTrue (other.has s) ↔ ((p : PlainPrefix) × IsOwnOf s.router p) =
    subst (λ (xs : List Member). (s : Member) → Contains xs s → IsTrue (other.has s) ↔ ((p : PlainPrefix) × IsOwnOf s.router p)) members other.has_is in
    let passed = same_passed is.has other.has is.members (λ s there. same_answer (is.has s) (other.has s) ((p : PlainPrefix) × IsOwnOf s.router p) (is.has_is s there) (decided s there)) in
    is.counted ∙ sym (length-filter is.has is.members) ∙ ap length passed ∙ length-filter other.has is.members ∙ sym counted

one_told_ulas : (w : Parts) (m : Member) → IsOneReport (IsUlasTold w m)
one_told_ulas w m = one_of_three _ _ _ (λ l k is other. is.0 other.0) (λ l k is other. is.0 other.0.0) (λ l k is other. is.1 other.0)
    (record { one = λ l k is other. is.1 ∙ sym other.1 }) (record { one = λ l k is other. is.2 ∙ sym other.2 }) (record {
      one = λ l k is other.
          let count = one_count w m is.1.0 other.1.0 is.1.1 other.1.1 in
          is.1.2 ∙ ap (λ (n : ℕ). codes "settled=yes still=yes count=" ++ decimal n) count ∙ sym other.1.2;
    })

one_ulas : (name : Name) (w : Parts) (m : Member) → IsOneReport (IsUlasLine name w m)
one_ulas name w m = record {
  one = λ l k is other.
      let same = (one_told_ulas w m).one is.told other.told is.is_told other.is_told in
      is.line_is ∙ ap (λ (told : List ℕ). codes "ulas " ++ name_text name ++ codes " " ++ told ++ 10 ∷ []) same ∙ sym other.line_is;
}

-- ---- of two routers

one_comparison : AgreementIsUnique → (left right : Name) (a b : Member) (l m : List ℕ) → IsCompareLine left right a b l → IsCompareLine left right a b m → l ≡ m
one_comparison agreements left right a b l m h k =
    let how : h.agreement ≡ k.agreement = agreements (leaves_of a.router) (leaves_of b.router) h.agreement k.agreement h.agrees k.agrees in
    let ids : h.same_ids ≡ k.same_ids = same_answer h.same_ids k.same_ids (a.router.reach ≡ b.router.reach) h.ids k.ids in
    let lines : compare_line left right h.agreement h.same_ids ≡ compare_line left right k.agreement k.same_ids = λ i. compare_line left right (how i) (ids i) in
    h.line_is ∙ lines ∙ sym k.line_is

one_compare : AgreementIsUnique → (left right : Name) (w : Parts) → IsOneReport (Compares left right w)
one_compare agreements left right w = record { one = once }
  where
    once : (l m : List ℕ) → Compares left right w l → Compares left right w m → l ≡ m
    once l m h k =
        let a : k.a ≡ h.a = same_Some k.a h.a (sym k.is_left ∙ h.is_left) in
        let b : k.b ≡ h.b = same_Some k.b h.b (sym k.is_right ∙ h.is_right) in
        let first : IsCompareLine left right h.a k.b m = subst (λ (x : Member). IsCompareLine left right x k.b m) a k.is_line in
        let both : IsCompareLine left right h.a h.b m = subst (λ (x : Member). IsCompareLine left right h.a x m) b first in
        one_comparison agreements left right h.a h.b l m h.is_line both

-- ---- each report

one_about : ResultsAreUnique → (what : About) (name : Name) (w : Parts) (m : Member) → IsOneReport (IsAbout what name w m)
one_about unique about.Show name w m = one_line (λ l. l ≡ show_line name m) (one_same (show_line name m))
one_about unique about.Hash name w m = one_line (λ l. l ≡ hash_line name m) (one_same (hash_line name m))
one_about unique about.Used name w m = one_used unique name m
one_about unique about.Prefixes name w m = one_same _
one_about unique (about.Elect e letter) name w m = one_line (IsElectLine name e letter m) (one_elect unique name e letter m)
one_about unique (about.Advert e) name w m = one_line (IsAdvertLine name e m) (one_advert unique name e m)
one_about unique about.Audit name w m = one_line (IsAuditLine name w m) (one_audit name w m)
one_about unique about.Addresses name w m = one_same _
one_about unique about.Addressed name w m = one_line (IsAddressedLine name w m) (one_addressed name w m)
one_about unique about.Ulas name w m = one_line (IsUlasLine name w m) (one_ulas name w m)

one_report : ResultsAreUnique → (r : Report) (w : Parts) → IsOneReport (IsReport r w)
one_report unique (report.Router name what) w = one_tells name w (IsAbout what name w) (one_about unique what name w)
one_report unique (report.Compare left right) w = one_line (Compares left right w) (one_compare unique.agreements left right w)
one_report unique report.Mail w = one_line (λ l. l ≡ mail_report w) (one_same (mail_report w))

pub sole_report : ResultsAreUnique → (r : Report) → IsSole (ReportEnds r)
sole_report unique r =
    sole_at (λ (p : Stage). Reports (unless_report r p.world) (IsReport r p.world)) (λ p. sole_reports (unless_report r p.world) (IsReport r p.world) (one_report unique r p.world))
