use Rattle.hn_base.proofs.Names.{rules, ◌≡◌, ◌∙◌, sym}
use Rattle.hn_forms.proofs.Names.{served_line}
use Rattle.hn_forms.proofs.Nodes.{told_of}
use Rattle.hn_forms.proofs.node_form.tell.Goals as goal

pub returns-then-status-eq-NO_MEMORY-clause-told : goal.returns-then-status-eq-NO_MEMORY-clause-told
returns-then-status-eq-NO_MEMORY-clause-told g c turns =
    let six : c.written_status-status.result ≡ 6 = search rules in
    told_of c.write_served.result c.of.result.status (g.K.Sink.held c.args.out.now) (g.K.Sink.held c.write_served.new.out) (served_line c.args.served)
    (c.of.ensures.status ∙ sym six ∙ c.written_status-status.ensures) c.write_served.ensures.ok c.write_served.ensures.cut

pub returns-clause-told : goal.returns-clause-told
returns-clause-told g c turns =
    told_of c.write_served.result c.written_status-status.result (g.K.Sink.held c.args.out.now) (g.K.Sink.held c.write_served.new.out)
    (served_line c.args.served) c.written_status-status.ensures c.write_served.ensures.ok c.write_served.ensures.cut
