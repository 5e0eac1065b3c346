use Rattle.hn_base.proofs.Names.{ℕ, List, sym, subst}
use Rattle.hn_script.proofs.Names.{IsScript, soak_text, Line, One}
use Rattle.hn_script.proofs.SoakScripts.{soak_so, soak_few, adds_all}
use Rattle.hn_script.proofs.soak.soak_script.Goals as goal

pub numbered-requires : goal.numbered-requires
numbered-requires c =
    let n = c.args.n in
    let seed = c.args.seed in
    soak_few n seed _ _ c.requires.at_most c.new-lines.ensures
    (adds_all n seed _ _ _ _ _ _ c.in_ok-add_chance.ensures c.in_ok-add_links.ensures c.in_ok-add_routers.ensures c.in_ok-add_run.ensures c.in_ok-add_reports.ensures)

pub returns : goal.returns
returns c =
    let n = c.args.n in
    let seed = c.args.seed in
    let adds = adds_all n seed _ _ _ _ _ _ c.in_ok-add_chance.ensures c.in_ok-add_links.ensures c.in_ok-add_routers.ensures c.in_ok-add_run.ensures c.in_ok-add_reports.ensures in
    subst (λ (lines : List (ℕ × Line)). IsScript (record { version = One; lines = lines }) (soak_text n seed)) (sym c.in_ok-numbered.ensures)
    (soak_so c.printed_is_read.ensures n seed _ _ c.requires.at_most c.new-lines.ensures adds)
