use Rattle.hn_base.proofs.Names.{◌≡◌, slice_eq-Decides, name_text}
use Rattle.hn_report.proofs.Names.{member_named}
use Rattle.std.specs.Prelude.{Decides}
use Rattle.hn_base.proofs.Keys.{node_decided}
use Rattle.hn_report.proofs.TextReports.{reach_same}
use Rattle.hn_report.proofs.router_reports.reach_the_same.Goals as goal

pub returns-in-Some-Some : goal.returns-in-Some-Some
returns-in-Some-Some c =
    let w = c.args.world.now.parts in
    let xs = c.reach.result.now in
    let ys = c.reach-in-Some-Some.result.now in
    let same : Decides c.eq.result (xs ≡ ys) = slice_eq-Decides node_decided xs ys c.eq.result c.eq.ensures in
    reach_same c.eq.result (member_named (name_text c.args.left.now) w)
    (member_named (name_text c.args.right.now) w) c.in-Some-Some.a.now c.in-Some-Some.b.now xs ys c.in-Some-Some.ensures c.in-Some-Some.ensures' c.reach.ensures c.reach-in-Some-Some.ensures same
