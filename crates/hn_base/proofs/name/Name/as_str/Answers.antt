use Rattle.hn_base.proofs.Names.{take, IsUtf8}
use Rattle.hn_base.proofs.NameBytes.{IsUtf8-from_name_bytes}
use Rattle.hn_base.proofs.name.Name.as_str.Goals as goal

pub unreachable-requires : goal.unreachable-requires
unreachable-requires c =
    let utf8 : IsUtf8 (take c.from.result c.args.self.now.bytes) =
    rw c.from.ensures (IsUtf8-from_name_bytes _ c.args.self.now.is_name.name_bytes)
    in c.in-Err.ensures.cases.0 utf8
