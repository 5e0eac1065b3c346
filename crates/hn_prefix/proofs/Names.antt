-- The names that proofs of this crate cite most, handed on from one place. Declares nothing.
pub use Rattle.hn_base.proofs.NumeralLemmas.{same_number}
pub use Rattle.hn_base.proofs.SplitLemmas.{no_split, same_split}
pub use Rattle.hn_prefix.specs.AddressText.{IsAddressText, IsGroups, IsGroupsText, address_of_groups, address_text_of}
pub use Rattle.hn_prefix.specs.Free.{IsFree, IsTakenPrefix, next_place, sub_prefix, sub_prefix_after, sub_prefix_count}
pub use Rattle.hn_prefix.specs.Gap.{HasNoGap, SplitsAtGap}
pub use Rattle.hn_prefix.specs.PrefixText.{IsPrefixText, prefix_text_of}
pub use Rattle.std.specs.Prelude.{Contains, codes}
