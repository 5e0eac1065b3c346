use Rattle.hn_decode.proofs.item_text.push_network_state.Goals as goal

pub returns : goal.returns
returns c = rw (← c.as_slice.ensures) c.write.ensures.bytes
