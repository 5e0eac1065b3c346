-- The names that proofs of this crate cite most, handed on from one place. Declares nothing.
pub use Rattle.hn_base.specs.declared.name.Name.{Name}
pub use Rattle.hn_io.specs.declared.fault.IoFault.{IoFault}
pub use Rattle.hn_io.specs.declared.fault.IoFault.TheVariants.{Failed, NoMemory}
pub use Rattle.hn_look.specs.Look.{EndsRefused, IsLookRun, MayStarve, Says, Sees, SeesCalm, SeesTable, SeesWhy}
pub use Rattle.hn_look.specs.Steps.{copy_lines, endpoint_text, sender_endpoint}
pub use Rattle.hn_look.specs.declared.words.Form.TheVariants.{Calm, Log, Table, Why}
pub use Rattle.hn_streams.specs.Laws.{PiecesAppend}
pub use Rattle.hn_streams.specs.Output.{AppendsCut, AppendsPart}
pub use Rattle.hn_table.specs.Table.{IsTableText}
pub use Rattle.hn_why.specs.Why.{IsWhy}
pub use Rattle.hn_world.specs.SeenWorld.{SeenWorld, world_parts}
pub use Rattle.hn_world.specs.declared.member.Member.{Member}
pub use Rattle.hn_world.specs.declared.parts.Parts.{Parts}
pub use Rattle.std.proofs.Common.{append-nil}
pub use Rattle.std.specs.Prelude.{string_bytes}
