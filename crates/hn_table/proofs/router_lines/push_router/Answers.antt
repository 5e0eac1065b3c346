use Rattle.hn_base.proofs.Names.{◌≡◌, ◌++◌, append_assoc, string_bytes, OnOk, on_ok_weaker, name_text}
use Rattle.hn_table.proofs.Lists.{router_line, router_told}
use Rattle.hn_table.proofs.router_lines.push_router.Goals as goal

pub returns : goal.returns
returns c =
    let name = name_text c.args.name.now in
    let old = string_bytes c.args.text.now in
    let text = router_line name c.id-id.result c.number-number.result c.net-net.result c.moment-moment.result c.yes_no-running.result.now in
    let told : OnOk c.write.result (string_bytes c.write.new.self ≡ old ++ text) = simp append_assoc (simp append_assoc at c.write.ensures.bytes) in
    on_ok_weaker c.write.result
    (router_told name c.args.member.now c.id-id.result c.number-number.result c.net-net.result c.moment-moment.result c.yes_no-running.result.now old (string_bytes c.write.new.self) c.id-id.ensures
    c.number-number.ensures c.net-net.ensures c.moment-moment.ensures c.yes_no-running.ensures)
    told
