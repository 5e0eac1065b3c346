-- The names that proofs of this crate cite most, handed on from one place. Declares nothing.
pub use Rattle.hn_advert.specs.declared.advert.Info.{Info}
pub use Rattle.hn_base.proofs.AscendingLists.{Contains-head, Contains-tail, nothing_in}
pub use Rattle.hn_base.proofs.Elements.{all_of}
pub use Rattle.hn_departed.specs.Departed.{departed, departs, deprecated, is_departed, kept, queue, told_after, told_of, with_departed, without_first}
pub use Rattle.hn_departed.specs.declared.departures.Told.{Told}
pub use Rattle.std.proofs.Common.{length-drop, length-take, ◌&&◌}
pub use Rattle.std.proofs.lemmas.List.Elements.{All-drop}
pub use Rattle.std.specs.List.{filter}
pub use Rattle.std.specs.Prelude.{Contains, is_some}
