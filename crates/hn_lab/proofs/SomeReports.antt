-- What reports tell: it cannot be that there is nothing to tell.
use Rattle.hn_base.proofs.Names.{◌≡◌, ◌+◌, ℕ, Bool, true, false, not, IsTrue, List, [], ◌∷◌, filter, Option, None, Some, refl, inl, inr, option_or, Some!, name_text}
use Rattle.hn_lab.proofs.Names.{◌↔◌, codes, StillAddressesStay, advert_bytes, SettledSeeEachOther, IsQuietByRules, IsRunning, is_in_set, IsSettledByRules, EpId, Letter, Name, some_there}
use Rattle.hn_lab.proofs.Names.{found_passes, some_by, some_then, AdvertExists, EntriesAreAsKnown, OwnAddressesAreSaid, OwnVersionIsSaid, ViewIsNetwork, IsRouter, seen_by, WorldIsSound}
use Rattle.hn_lab.proofs.Names.{is_named, member_named, unless_running, unless_runs, IsReplayed, Member, Parts, AreAddressesStill, IsAddressed, IsAddressedLine, IsAdvertLine}
use Rattle.hn_lab.proofs.Names.{advert_line, IsAudited, IsAuditLine, audit_line, AreUsedLines, IsElectLine, elect_line, used_lines, Compares, IsAbout, IsReport, Tells, mail_report}
use Rattle.hn_lab.proofs.Names.{unless_report, compare_line, hash_line, show_line, IsOneLine, ArePrefixesStill, HasGenerated, HaveGenerated, IsUlasLine, IsUlasTold, About, Report}
use Rattle.hn_audit.specs.Laws.{SettledAndQuietIsSound}
use Rattle.hn_base.proofs.SomeExists.{some_is}
use Rattle.hn_deleg.specs.Laws.{UsableExists}
use Rattle.hn_router.specs.Laws.{ElectedExists}
use Rattle.hn_world.specs.Existing.{RoutersAgreeSomehow}
use Rattle.hn_world.specs.Asked.{code_if, of_router, unless_both_run, unless_known}
use Rattle.hn_report.specs.AddressLines.{addresses_lines}
use Rattle.hn_report.specs.PrefixReports.{prefixes_lines}
use Rattle.hn_lab.specs.Report.{unless_about}
use Rattle.hn_lab.specs.declared.report.About.TheVariants as about
use Rattle.hn_lab.specs.declared.report.Report.TheVariants as report
use Rattle.hn_lab.proofs.AddressSets.{are_alone}
use Rattle.hn_lab.proofs.Sets.{IsKnown}
use Rattle.hn_lab.proofs.SomeTurns.{router_named}
use Rattle.hn_lab.proofs.UlaSets.{ula_count}
use Rattle.hn_base.proofs.DecidingTests.{neither_given}

-- the laws on which it rests
pub record ReportLaws : Type 0 where
  pub sound : WorldIsSound
  pub usable : UsableExists
  pub elected : ElectedExists
  pub adverts : AdvertExists
  pub agreements : RoutersAgreeSomehow
  pub settled : SettledAndQuietIsSound
  pub see : SettledSeeEachOther
  pub version : OwnVersionIsSaid
  pub said : OwnAddressesAreSaid
  pub stays : StillAddressesStay
  pub network : ViewIsNetwork
  pub entries : EntriesAreAsKnown

-- ---- of the router of a name

some_line : (IsReport : List ℕ → Type 0) → Some! IsReport → Some! (IsOneLine IsReport)
some_line IsReport some = some_then some (λ line is none. none (line ∷ []) (line, is, refl))

some_told : {A : Type 0} (name : Name) (w : Parts) (report : Member → A → Type 0) (asked : Member → Option ℕ) → of_router asked (member_named (name_text name) w) ≡ None
    → ((m : Member) → member_named (name_text name) w ≡ Some m → asked m ≡ None → Some! (report m)) → Some! (Tells name w report)
some_told name w report asked accepted some =
    let m = some_there 7 asked (member_named (name_text name) w) accepted in
    some_then (some m.0 m.1 m.2) (λ told is none. none told (m.0, m.1, is))

running_of : (b : Bool) → code_if 12 (not b) ≡ None → IsTrue b
running_of true h = refl
running_of false h = absurd cc

runs_there : (name : Name) (w : Parts) (m : Member) → member_named (name_text name) w ≡ Some m → unless_running m ≡ None → IsRunning w m
runs_there name w m named accepted = record { there = (found_passes (is_named (name_text name)) w.members m named).0; running = running_of m.running accepted }

-- ---- how many of a list have a generated prefix

some_count : (members : List Member) → Some! (HaveGenerated members)
some_count [] = λ none. none 0 refl
some_count (m ∷ ms) = some_then (some_count ms) (λ rest have.
    some_by (HasGenerated m) (λ has none. none (rest + 1) (inl (has, (rest, refl, have)))) (λ lacks none. none rest (inr (lacks, have))))

-- ---- each report

module _ (laws : ReportLaws) (w : Parts) (replayed : IsReplayed w) (name : Name) (m : Member) (named : member_named (name_text name) w ≡ Some m) where
  router : IsRouter m.router
  router = router_named laws.sound name w m replayed named

  some_used : Some! (AreUsedLines name m)
  some_used = let (used, are) = laws.usable (seen_by m.router) in some_is (AreUsedLines name m) (used_lines name used) (record { used = used; are_usable = are; lines_are = refl })

  some_elect : (e : EpId) (letter : Letter) → Some! (IsElectLine name e letter m)
  some_elect e letter = some_then (laws.elected m.router e letter router) (λ who is none. none (elect_line name e letter who) (record { who = who; is_elected = is; line_is = refl }))

  some_advert_line : (e : EpId) → Some! (IsAdvertLine name e m)
  some_advert_line e = some_then (laws.adverts m.router e router) (λ advert is none.
      none (advert_line name e (advert_bytes advert)) (record { bytes = advert_bytes advert; are_bytes = (advert, is.0, refl); line_is = refl }))

  module _ (runs : IsRunning w m) where
    -- whether it is settled and quiet
    some_audited : Some! (IsAudited w m)
    some_audited = some_by (IsSettledByRules w m)
        (λ settled. some_by (IsQuietByRules w m)
        (λ quiet none. none (codes "settled=yes quiet=yes sound=yes") (inr (inr (settled, quiet, laws.settled w m replayed runs settled quiet, refl))))
        (λ not none. none (codes "settled=yes quiet=no") (inr (inl (settled, not, refl)))))
        (λ not none. none (codes "settled=no") (inl (not, refl)))

    some_audit_line : Some! (IsAuditLine name w m)
    some_audit_line = some_then some_audited (λ told is none. none (audit_line name told) (record { told = told; is_audited = is; line_is = refl }))

    known : IsSettledByRules w m → IsKnown w m
    known settled = record { sound = laws.sound; see = laws.see; replayed = replayed; runs = runs; settled = settled }

    -- whether its set is still, by addresses
    some_addressed : Some! (IsAddressed w m)
    some_addressed = some_by (IsSettledByRules w m)
        (λ settled. some_by (AreAddressesStill w m)
        (λ still none. none (codes "settled=yes still=yes alone=yes") (inr (inr (still, are_alone laws.version laws.said laws.stays w m (known settled) still, refl))))
        (λ not none. none (codes "settled=yes still=no") (inr (inl (settled, not, refl)))))
        (λ not none. none (codes "settled=no") (inl (not, refl)))

    some_addressed_line : Some! (IsAddressedLine name w m)
    some_addressed_line = some_then some_addressed (λ told is none. none _ (record { told = told; is_addressed = is; line_is = refl }))

    -- and by delegated prefixes
    some_ulas : Some! (IsUlasTold w m)
    some_ulas = some_by (IsSettledByRules w m)
        (λ settled. some_by (ArePrefixesStill w m)
        (λ still. some_then (some_count (filter (is_in_set m.router.reach) w.members)) (λ count have none.
        none _ (inr (inr (still, (count, ula_count laws.network laws.entries w m (known settled) still count have, refl))))))
        (λ not none. none (codes "settled=yes still=no") (inr (inl (settled, not, refl)))))
        (λ not none. none (codes "settled=no") (inl (not, refl)))

    some_ulas_line : Some! (IsUlasLine name w m)
    some_ulas_line = some_then some_ulas (λ told is none. none _ (record { told = told; is_told = is; line_is = refl }))

-- ---- of two routers

-- two routers reach the same, or not
some_same : (a b : Member) → Some! (λ (same : Bool). IsTrue same ↔ (a.router.reach ≡ b.router.reach))
some_same a b = some_by (a.router.reach ≡ b.router.reach) (λ same none. none true (λ _. same, λ _. refl)) (λ other none. none false (λ is. absurd cc, λ is. absurd (other is)))

some_compared : ReportLaws → (left right : Name) (w : Parts) → IsReplayed w → unless_both_run left right w ≡ None → Some! (Compares left right w)
some_compared laws left right w replayed accepted =
    let first = neither_given (unless_known left w) (option_or (unless_known right w) (option_or (unless_runs left w) (unless_runs right w))) accepted in
    let second = neither_given (unless_known right w) (option_or (unless_runs left w) (unless_runs right w)) first.1 in
    let a = some_there 7 (λ (_ : Member). None) (member_named (name_text left) w) first.0 in
    let b = some_there 7 (λ (_ : Member). None) (member_named (name_text right) w) second.0 in
    let a_in = (found_passes (is_named (name_text left)) w.members a.0 a.1).0 in
    let b_in = (found_passes (is_named (name_text right)) w.members b.0 b.1).0 in
    some_then (laws.agreements w a.0 b.0 replayed a_in b_in) (λ agreement agrees.
    some_then (some_same a.0 b.0) (λ same ids none.
    none (compare_line left right agreement same) (record {
      a = a.0;
      b = b.0;
      is_left = a.1;
      is_right = b.1;
      is_line = record { agreement = agreement; same_ids = same; agrees = agrees; ids = ids; line_is = refl };
    })))

-- ---- all reports

-- one line that is known
some_this : (told : List ℕ) → Some! (IsOneLine (λ line. line ≡ told))
some_this told = some_line (λ line. line ≡ told) (some_is (λ line. line ≡ told) told refl)

module _ (laws : ReportLaws) (w : Parts) (replayed : IsReplayed w) where
  some_about : (what : About) (name : Name) (m : Member) → member_named (name_text name) w ≡ Some m → unless_about what m ≡ None → Some! (IsAbout what name w m)
  some_about about.Show name m named able = some_this (show_line name m)
  some_about about.Hash name m named able = some_this (hash_line name m)
  some_about about.Used name m named able = some_used laws w replayed name m named
  some_about about.Prefixes name m named able = some_is (λ lines. lines ≡ prefixes_lines name m) (prefixes_lines name m) refl
  some_about (about.Elect e letter) name m named able = some_line (IsElectLine name e letter m) (some_elect laws w replayed name m named e letter)
  some_about (about.Advert e) name m named able = some_line (IsAdvertLine name e m) (some_advert_line laws w replayed name m named e)
  some_about about.Audit name m named able = some_line (IsAuditLine name w m) (some_audit_line laws w replayed name m named (runs_there name w m named able))
  some_about about.Addresses name m named able = some_is (λ lines. lines ≡ addresses_lines name m) (addresses_lines name m) refl
  some_about about.Addressed name m named able = some_line (IsAddressedLine name w m) (some_addressed_line laws w replayed name m named (runs_there name w m named able))
  some_about about.Ulas name m named able = some_line (IsUlasLine name w m) (some_ulas_line laws w replayed name m named (runs_there name w m named able))

  pub some_report : (of : Report) → unless_report of w ≡ None → Some! (IsReport of w)
  some_report (report.Router name what) accepted = some_told name w (IsAbout what name w) (unless_about what) accepted (λ m named able. some_about what name m named able)
  some_report (report.Compare left right) accepted = some_line (Compares left right w) (some_compared laws left right w replayed accepted)
  some_report report.Mail accepted = some_this (mail_report w)
