-- The names that proofs of this crate cite most, handed on from one place. Declares nothing.
pub use Rattle.hn_base.proofs.DecidingTests.{texts_cases}
pub use Rattle.hn_base.proofs.Elements.{from_filter}
pub use Rattle.hn_base.proofs.FrontOfList.{find-none}
pub use Rattle.hn_base.specs.declared.ids.NodeId.{NodeId}
pub use Rattle.hn_hash.specs.Hash.{hash_of}
pub use Rattle.hn_hash.specs.declared.part.Part.{Part}
pub use Rattle.hn_store.specs.Acceptance.{Accepts, CarriesData, HasNoRoom, HasWrongHash, IsAnswer, IsNews, IsStale, PlainState, entries_after, entries_changed, held_part, known_of, plain_state}
pub use Rattle.hn_store.specs.Acceptance.{stored_from, stored_renumbered}
pub use Rattle.hn_store.specs.AcceptanceParts.{IsOfNumber}
pub use Rattle.hn_store.specs.Due.{IsForgottenFrom}
pub use Rattle.hn_store.specs.Loss.{is_forgotten, is_to_mark, lost_after, marked_node}
pub use Rattle.hn_store.specs.Nodes.{IsIntact, IsTable, Nodes, entry, held, ids_of_held, put, stored_part}
pub use Rattle.hn_store.specs.Place.{IsGapFor, IsPlaceOf}
pub use Rattle.hn_store.specs.Ages.{AreAgesUndueBefore}
pub use Rattle.hn_store.specs.declared.state.OwnLeaf.{OwnLeaf}
pub use Rattle.hn_store.specs.declared.state.Took.{Took}
pub use Rattle.hn_store.specs.declared.state.Took.TheVariants.{Ask, BadBody, BadHash, Full, Kept, Own, Renumbered, Stale, TooLong}
pub use Rattle.hn_store.specs.declared.stored.HeldNode.{HeldNode}
pub use Rattle.hn_store.specs.declared.stored.Stored.{Stored}
pub use Rattle.hn_tlv.specs.Grammar.{FirstFault, HasTlvs}
pub use Rattle.std.specs.Prelude.{Contains, Option, nat_lt}
