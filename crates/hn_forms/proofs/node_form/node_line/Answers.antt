use Rattle.hn_base.proofs.Names.{◌≡◌, append_assoc, length, IfOk-weaker}
use Rattle.hn_forms.proofs.Names.{string_bytes, node_line}
use Rattle.hn_forms.proofs.Nodes.{line_is}
use Rattle.hn_forms.proofs.node_form.node_line.Goals as goal

pub returns : goal.returns
returns c =
    let s = c.args.served.now in
    let text = node_line c.id-id.result c.number-number.result (length c.reach.result.now) s.taken s.sent in
    IfOk-weaker c.format.result (λ line. string_bytes line ≡ text) _
    (λ line is. line_is s c.id-id.result c.number-number.result c.reach.result.now (string_bytes line) c.id-id.ensures c.number-number.ensures c.reach.ensures is)
    (simp append_assoc c.format.ensures.ok)
