-- The names that proofs of this crate cite most, handed on from one place. Declares nothing.
pub use Rattle.hn_pair.specs.declared.assigned.Assigned.{Assigned}
pub use Rattle.hn_base.specs.YesNo.{yes_no}
pub use Rattle.hn_base.specs.declared.name.Name.{Name}
pub use Rattle.hn_own.specs.Addresses.{OwnAddress}
pub use Rattle.hn_report.specs.AddressLines.{address_line}
pub use Rattle.hn_report.specs.PrefixReports.{prefix_line}
pub use Rattle.hn_world.specs.Names.{member_named}
pub use Rattle.std.specs.Prelude.{codes, map, string_bytes}
