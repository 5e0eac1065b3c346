-- Hexadecimal digits are ASCII, and so text.
use Rattle.hn_base.proofs.Names.{◌≡◌, sym, subst, IsUtf8}
use Rattle.hn_base.proofs.Names.{encode_lower}
use Rattle.hn_base.proofs.HexLemmas.{IsUtf8-encode_lower}
use Rattle.hn_base.proofs.Results.{ok_where}
use Rattle.hn_base.proofs.hex_text.write_chunk.Goals as goal

pub unwrap-requires-2 : goal.unwrap-requires-2
unwrap-requires-2 g c =
    let written : c.encode_to_slice.new.output ≡ encode_lower c.args.bytes.now = rw c.unwrap.ensures at c.encode_to_slice.ensures.written in
    ok_where c.from_utf8.result _ _ _ c.from_utf8.ensures.cases (subst IsUtf8 (sym written) (IsUtf8-encode_lower c.args.bytes.now))
