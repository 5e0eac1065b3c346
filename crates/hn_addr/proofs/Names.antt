-- The names that proofs of this crate cite most, handed on from one place. Declares nothing.
pub use Rattle.hn_addr.specs.Addresses.{AreNext, DrawsOne, GetsNone, HasCome, IsAddressOfOther, IsAddressStill, IsChosenFor, IsFirstFit, IsLeastOwn, KeepsOwn, NumberFits, Stays, adding, ahead, counts}
pub use Rattle.hn_addr.specs.Addresses.{none_chosen, start_of}
pub use Rattle.hn_addr.specs.Choosings.{Draws, IsFirstAround}
pub use Rattle.hn_addr.specs.Numbers.{HasNoneFrom}
pub use Rattle.hn_addr.specs.OfNodes.{IsGivenByOne, IsOfNode}
pub use Rattle.hn_addr.specs.Others.{AreOthers, HasAddressAbove}
pub use Rattle.hn_addr.specs.Own.{IsLeastFound}
pub use Rattle.hn_addr.specs.declared.choice.Choice.TheVariants.{Keep, Set}
pub use Rattle.hn_addr.specs.declared.choosing.Choosing.{Choosing}
pub use Rattle.hn_addr.specs.declared.others.Others.{Others}
pub use Rattle.hn_addr.specs.declared.others.Taken.{Taken}
pub use Rattle.hn_pair.specs.declared.assigned.Assigned.{Assigned}
pub use Rattle.hn_base.proofs.AscendingLists.{nothing_in}
pub use Rattle.hn_base.proofs.Elements.{from_filter}
pub use Rattle.hn_base.proofs.FrontOfList.{front_at}
pub use Rattle.hn_base.specs.declared.ids.NodeId.{NodeId}
pub use Rattle.hn_data.specs.View.{PlainView}
pub use Rattle.hn_data.specs.declared.view.Entry.{Entry}
pub use Rattle.hn_own.specs.Addresses.{OwnAddress, address_cmp}
pub use Rattle.hn_rules.specs.Seen.{seen_by}
pub use Rattle.hn_rules.specs.declared.state.State.{State}
