use Rattle.hn_base.proofs.Names.{◌≡◌, ◌++◌, [], ◌∷◌, Some, codes, decimal, hex_text, on_ok_weaker, OnOk}
use Rattle.hn_look.proofs.Names.{string_bytes, sender_endpoint, endpoint_text}
use Rattle.hn_look.proofs.Lists.{line_by, in_pieces, copy_told}
use Rattle.hn_look.proofs.step_text.push_copy.Goals as goal

pub returns : goal.returns
returns c =
    let w = c.args.world.now.parts in
    let info = c.in-Some-Some.info in
    let old = string_bytes c.args.text.now in
    let has = rw c.in-Some-Some.is-0 at c.copy_info.ensures.info in
    let has_bytes = rw c.in-Some-Some.is-1 at c.copy_bytes.ensures in
    let line = line_by c.args.number c.router_at.result (sender_endpoint info.from) info.to c.from.result c.way_word-way.result.now c.in-Some-Some.bytes.now in
    let told : OnOk c.write.result (string_bytes c.write.new.self ≡ old ++ line) =
    on_ok_weaker c.write.result
    (in_pieces old (string_bytes c.write.new.self) (codes "  copy ") (decimal c.args.number) (codes " ") (endpoint_text
    c.router_at.result (sender_endpoint info.from)) (codes " > ") (endpoint_text (Some info.to) c.from.result) (codes " ") c.way_word-way.result.now
    (codes " ") (hex_text c.in-Some-Some.bytes.now) (10 ∷ []))
    c.write.ensures.bytes
    in
    on_ok_weaker c.write.result
    (λ wrote copy at. copy_told w c.args.number copy info c.in-Some-Some.bytes.now c.router_at.result c.sender_place.result c.from.result c.way_word-way.result.now old _ has has_bytes
    c.router_at.ensures c.sender_place.ensures c.from.ensures c.way_word-way.ensures wrote at)
    told
