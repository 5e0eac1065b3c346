-- What came of an event only grows.
use Rattle.hn_base.proofs.Names.{List, ◌++◌, refl, append_assoc}
use Rattle.hn_rules.proofs.Names.{PutId, Publish, AddSends, TakeNote, TakeWords, BeginsWith, ChangesOnlyAdd}

longer : {A : Type 0} (front list more : List A) → BeginsWith front list → BeginsWith front (list ++ more)
longer front list more (rest, is) = (rest ++ more, rw (is, append_assoc) refl)

pub only_add : ChangesOnlyAdd
only_add tlvs done (Publish number own) r allowed grows = record {
  sends = grows.sends;
  notes = grows.notes;
  published = longer done.published r.done.published _ grows.published;
  words = grows.words;
}
only_add tlvs done (PutId id number own) r allowed grows = record {
  sends = grows.sends;
  notes = grows.notes;
  published = longer done.published r.done.published _ grows.published;
  words = grows.words;
}
only_add tlvs done (AddSends sends) r allowed grows = record {
  sends = longer done.sends r.done.sends sends grows.sends;
  notes = grows.notes;
  published = grows.published;
  words = grows.words;
}
only_add tlvs done (TakeNote note) r allowed grows = record {
  sends = grows.sends;
  notes = longer done.notes r.done.notes _ grows.notes;
  published = grows.published;
  words = grows.words;
}
only_add tlvs done (TakeWords words) r allowed grows = record {
  sends = grows.sends;
  notes = grows.notes;
  published = grows.published;
  words = longer done.words r.done.words words grows.words;
}
only_add tlvs done _ r allowed grows =
    record { sends = grows.sends; notes = grows.notes; published = grows.published; words = grows.words }
