use Rattle.hn_lab.specs.declared.report.About.TheVariants as about
use Rattle.hn_base.proofs.Names.{◌≡◌}
use Rattle.hn_lab.proofs.Names.{string_bytes, IsAddressedLine, IsAdvertLine, IsAuditLine, IsElectLine, show_line, hash_line, IsUlasLine}
use Rattle.hn_lab.proofs.ReportLines.{told_line, told_lines}
use Rattle.hn_lab.proofs.report.told_about.Goals as goal

pub returns-in_ok-show_line-in-Show : goal.returns-in_ok-show_line-in-Show
returns-in_ok-show_line-in-Show c =
    told_line c.args.about about.Show c.args.name.now c.args.world.now.parts c.args.member.now (λ l. l ≡ show_line c.args.name.now c.args.member.now)
    (string_bytes c.in_ok-show_line-in-Show.field-0) c.of.result c.in-Show.is (λ lines h. h) c.in_ok-show_line-in-Show.ensures c.of.ensures

pub returns-in_ok-hash_line-in-Hash : goal.returns-in_ok-hash_line-in-Hash
returns-in_ok-hash_line-in-Hash c =
    told_line c.args.about about.Hash c.args.name.now c.args.world.now.parts c.args.member.now (λ l. l ≡ hash_line c.args.name.now c.args.member.now)
    (string_bytes c.in_ok-hash_line-in-Hash.field-0) c.of-in-Hash.result c.in-Hash.is (λ lines h. h) c.in_ok-hash_line-in-Hash.ensures c.of-in-Hash.ensures

pub returns-in-Used : goal.returns-in-Used
returns-in-Used c = told_lines c.args.about about.Used c.args.name.now c.args.world.now.parts c.args.member.now c.used_lines.result c.in-Used.is c.used_lines.ensures

pub returns-in-Prefixes : goal.returns-in-Prefixes
returns-in-Prefixes c = told_lines c.args.about about.Prefixes c.args.name.now c.args.world.now.parts c.args.member.now c.prefixes_lines.result c.in-Prefixes.is c.prefixes_lines.ensures

pub returns-in_ok-elect_line-in-Elect : goal.returns-in_ok-elect_line-in-Elect
returns-in_ok-elect_line-in-Elect c =
    told_line c.args.about (about.Elect c.in-Elect.e c.in-Elect.letter) c.args.name.now c.args.world.now.parts c.args.member.now
    (IsElectLine c.args.name.now c.in-Elect.e c.in-Elect.letter c.args.member.now)
    (string_bytes c.in_ok-elect_line-in-Elect.field-0) c.of-in-Elect.result c.in-Elect.is (λ lines h. h) c.in_ok-elect_line-in-Elect.ensures c.of-in-Elect.ensures

pub returns-in_ok-advert_line-in-Advert : goal.returns-in_ok-advert_line-in-Advert
returns-in_ok-advert_line-in-Advert c =
    told_line c.args.about (about.Advert c.in-Advert.e) c.args.name.now c.args.world.now.parts c.args.member.now (IsAdvertLine c.args.name.now c.in-Advert.e c.args.member.now)
    (string_bytes c.in_ok-advert_line-in-Advert.field-0) c.of-in-Advert.result c.in-Advert.is (λ lines h. h) c.in_ok-advert_line-in-Advert.ensures c.of-in-Advert.ensures

pub returns-in_ok-audit_line-in-Audit : goal.returns-in_ok-audit_line-in-Audit
returns-in_ok-audit_line-in-Audit c =
    told_line c.args.about about.Audit c.args.name.now c.args.world.now.parts c.args.member.now (IsAuditLine c.args.name.now c.args.world.now.parts c.args.member.now)
    (string_bytes c.in_ok-audit_line-in-Audit.field-0) c.of-in-Audit.result c.in-Audit.is (λ lines h. h) c.in_ok-audit_line-in-Audit.ensures c.of-in-Audit.ensures

pub returns-in-Addresses : goal.returns-in-Addresses
returns-in-Addresses c = told_lines c.args.about about.Addresses c.args.name.now c.args.world.now.parts c.args.member.now c.addresses_lines.result c.in-Addresses.is c.addresses_lines.ensures

pub returns-in_ok-addressed_line-in-Addressed : goal.returns-in_ok-addressed_line-in-Addressed
returns-in_ok-addressed_line-in-Addressed c =
    told_line c.args.about about.Addressed c.args.name.now c.args.world.now.parts c.args.member.now (IsAddressedLine c.args.name.now c.args.world.now.parts c.args.member.now)
    (string_bytes c.in_ok-addressed_line-in-Addressed.field-0) c.of-in-Addressed.result c.in-Addressed.is (λ lines h. h) c.in_ok-addressed_line-in-Addressed.ensures c.of-in-Addressed.ensures

pub returns-in_ok-ulas_line-in-Ulas : goal.returns-in_ok-ulas_line-in-Ulas
returns-in_ok-ulas_line-in-Ulas c =
    told_line c.args.about about.Ulas c.args.name.now c.args.world.now.parts c.args.member.now (IsUlasLine c.args.name.now c.args.world.now.parts c.args.member.now)
    (string_bytes c.in_ok-ulas_line-in-Ulas.field-0) c.of-in-Ulas.result c.in-Ulas.is (λ lines h. h) c.in_ok-ulas_line-in-Ulas.ensures c.of-in-Ulas.ensures
