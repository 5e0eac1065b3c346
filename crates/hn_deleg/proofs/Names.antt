-- The names that proofs of this crate cite most, handed on from one place. Declares nothing.
pub use Rattle.hn_base.proofs.AscendingLists.{Contains-cases, Contains-from_map, Contains-head, Contains-map, Contains-tail, ascending_unique, not_both, nothing_in, sorted_push}
pub use Rattle.hn_base.proofs.Elements.{all_of, from_filter_map, in_filter_map}
pub use Rattle.hn_base.proofs.FrontOfList.{front_at}
pub use Rattle.hn_base.proofs.NextDue.{sooner_each}
pub use Rattle.hn_base.proofs.PartsAtPlaces.{contains_at}
pub use Rattle.hn_base.proofs.Pigeonhole.{no_longer}
pub use Rattle.hn_base.proofs.Prefixes.{exact_prefix, prefix_total}
pub use Rattle.hn_data.specs.Delegations.{HasDelegation, delegation_of}
pub use Rattle.hn_data.specs.Later.{aged_entry}
pub use Rattle.hn_data.specs.Said.{HasVersion}
pub use Rattle.hn_data.specs.View.{PlainView}
pub use Rattle.hn_data.specs.declared.said.Delegation.{Delegation}
pub use Rattle.hn_data.specs.declared.view.Entry.{Entry}
pub use Rattle.hn_deleg.specs.Due.{IsDelegationEnd, IsEnd, IsEndIn}
pub use Rattle.hn_deleg.specs.Live.{IsAnnounced, IsAnnouncedPrefix, IsLongestLeft, remaining}
pub use Rattle.hn_deleg.specs.Steps.{AreOutermost, HasLifetimesIn, HasPrefixes, IsCovered, IsGreatestIn, IsLiveAt, IsLiveIn, IsReadyFor, live_of}
pub use Rattle.hn_deleg.specs.Used.{AreUsable, HasLifetimes, IsOutermost, prefixes_of}
pub use Rattle.hn_deleg.specs.declared.delegated.Delegated.{Delegated}
pub use Rattle.hn_typed.specs.Item.{PlainItem}
pub use Rattle.std.proofs.lemmas.List.{length-append}
