-- What a report tells, and when it is refused. docs/FORMATS.md has the table.
use Rattle.std.specs.Prelude.{◌≡◌, ℕ, List, Option, None, Some}
use Rattle.hn_base.specs.Name.{name_text}
use Rattle.hn_base.specs.declared.name.Name.{Name}
use Rattle.hn_world.specs.declared.member.Member.{Member}
use Rattle.hn_world.specs.declared.parts.Parts.{Parts}
use Rattle.hn_world.specs.Names.{member_named}
use Rattle.hn_world.specs.Asked.{of_router, unless_running, unless_both_run}
use Rattle.hn_lab.specs.declared.report.About.{About}
use Rattle.hn_lab.specs.declared.report.About.TheVariants as about
use Rattle.hn_lab.specs.declared.report.Report.{Report}
use Rattle.hn_lab.specs.declared.report.Report.TheVariants as report
use Rattle.hn_report.specs.AddressLines.{addresses_lines}
use Rattle.hn_lab.specs.AddressReports.{IsAddressedLine}
use Rattle.hn_report.specs.AdvertReports.{IsAdvertLine}
use Rattle.hn_lab.specs.AuditReports.{IsAuditLine}
use Rattle.hn_report.specs.PrefixReports.{AreUsedLines, prefixes_lines, IsElectLine}
use Rattle.hn_play.specs.Process.{Process}
use Rattle.hn_report.specs.RouterReports.{show_line, hash_line, Compares, mail_report}
use Rattle.hn_play.specs.Tells.{IsOneLine, Reports}
use Rattle.hn_lab.specs.UlaReports.{IsUlasLine}
use Rattle.hn_play.specs.Electing.{unless_on}

-- what a report tells of the router of a name
abbrev pub Tells : {A : Type 0} → Name → Parts → (Member → A → Type 0) → A → Type 0
Tells name w tells told = (m : Member) × (member_named (name_text name) w ≡ Some m) × tells m told

-- ---- reports on a router

-- only a running router is looked at, but for one report
abbrev pub unless_about : About → Member → Option ℕ
unless_about about.Show m = None
unless_about (about.Elect e letter) m = unless_on e m
unless_about (about.Advert e) m = unless_on e m
unless_about _ m = unless_running m

-- the lines of each
abbrev pub IsAbout : About → Name → Parts → Member → List (List ℕ) → Type 0
IsAbout about.Show name w m lines = IsOneLine (λ line. line ≡ show_line name m) lines
IsAbout about.Hash name w m lines = IsOneLine (λ line. line ≡ hash_line name m) lines
IsAbout about.Used name w m lines = AreUsedLines name m lines
IsAbout about.Prefixes name w m lines = lines ≡ prefixes_lines name m
IsAbout (about.Elect e letter) name w m lines = IsOneLine (IsElectLine name e letter m) lines
IsAbout (about.Advert e) name w m lines = IsOneLine (IsAdvertLine name e m) lines
IsAbout about.Audit name w m lines = IsOneLine (IsAuditLine name w m) lines
IsAbout about.Addresses name w m lines = lines ≡ addresses_lines name m
IsAbout about.Addressed name w m lines = IsOneLine (IsAddressedLine name w m) lines
IsAbout about.Ulas name w m lines = IsOneLine (IsUlasLine name w m) lines

-- ---- all reports

-- the code with which a report is refused
abbrev pub unless_report : Report → Parts → Option ℕ
unless_report (report.Router name what) w = of_router (unless_about what) (member_named (name_text name) w)
unless_report (report.Compare left right) w = unless_both_run left right w
unless_report report.Mail w = None

-- its lines
abbrev pub IsReport : Report → Parts → List (List ℕ) → Type 0
IsReport (report.Router name what) w lines = Tells name w (IsAbout what name w) lines
IsReport (report.Compare left right) w lines = IsOneLine (Compares left right w) lines
IsReport report.Mail w lines = IsOneLine (λ line. line ≡ mail_report w) lines

-- a report looks at the world before it, and changes nothing
abbrev pub ReportEnds : Report → Process
ReportEnds of stop before after = Reports (unless_report of before.world) (IsReport of before.world) stop before after
