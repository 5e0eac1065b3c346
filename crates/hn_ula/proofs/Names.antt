-- The names that proofs of this crate cite most, handed on from one place. Declares nothing.
pub use Rattle.hn_addr.specs.OfNodes.{AreOfNodes}
pub use Rattle.hn_base.proofs.AscendingLists.{Contains-head, nothing_in}
pub use Rattle.hn_base.specs.declared.ids.NodeId.{NodeId}
pub use Rattle.hn_data.specs.Delegations.{HasDelegation}
pub use Rattle.hn_data.specs.View.{PlainView}
pub use Rattle.hn_deleg.specs.declared.delegated.Delegated.{Delegated}
pub use Rattle.hn_rules.specs.Seen.{seen_by}
pub use Rattle.hn_rules.specs.declared.state.State.{State}
pub use Rattle.hn_ula.specs.Found.{HasForeign, HasGreater, HasOtherOf, HasPrefixAbove, IsGreatestFound, IsOwnFound}
pub use Rattle.hn_ula.specs.Said.{AreGenerated, IsOfDelegation}
pub use Rattle.hn_ula.specs.Ula.{Announces, HasTwo, IsGreatestOwn, IsOwnOf, IsToAnnounce, MustGo, Withdraws, made_of}
pub use Rattle.hn_ula.specs.declared.decision.Ula.{Ula}
pub use Rattle.hn_ula.specs.declared.decision.Ula.TheVariants.{Announce, Keep, Withdraw}
pub use Rattle.hn_ula.specs.declared.generated.Generated.{Generated}
