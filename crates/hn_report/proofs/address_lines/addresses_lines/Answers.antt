use Rattle.hn_base.proofs.Names.{◌≡◌, ◌∙◌, List, ap, append_assoc}
use Rattle.hn_report.proofs.Names.{string_bytes, OwnAddress}
use Rattle.hn_report.proofs.AddressTexts.{addresses_head, lines_on, all_lines}
use Rattle.hn_report.proofs.address_lines.addresses_lines.Goals as goal

pub returns : goal.returns
returns c =
    let name = c.args.name.now in
    let addresses = c.addresses-addresses.result.now in
    let head : string_bytes c.in_ok-format.field-0 ≡ addresses_head name addresses = simp append_assoc c.in_ok-format.ensures.ok in
    all_lines name addresses (string_bytes c.in_ok-format.field-0) c.new-lines.result c.push.new.self c.add_address_lines.new.lines
    c.new-lines.ensures c.in_ok-push.ensures c.in_ok-add_address_lines.ensures head
    ∙ ap (λ (a : List OwnAddress). lines_on name a) c.addresses-addresses.ensures
