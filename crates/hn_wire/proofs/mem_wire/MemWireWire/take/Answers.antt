use Rattle.hn_base.proofs.Names.{◌∙◌, sym}
use Rattle.hn_wire.proofs.FirstTaken.{takes_first}
use Rattle.hn_wire.proofs.mem_wire.MemWireWire.take.Goals as goal

pub returns-clause-taken : goal.returns-clause-taken
returns-clause-taken c =
    rw (← c.self.view_is, c.as_slice-bytes.ensures)
    (takes_first c.args.at c.in-Some.place c.remove-datagram.result _ _ c.self.inside.waiting.items _
    (rw (← c.deref.ensures.value) (sym c.first_at.ensures ∙ c.in-Some.is)) c.remove-datagram.ensures.value
    (c.copy_from_slice.ensures.after ∙ c.as_slice-bytes.ensures) c.remove-datagram.ensures.items)
