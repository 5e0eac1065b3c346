-- The names that proofs of this crate cite most, handed on from one place. Declares nothing.
pub use Rattle.hn_forms.specs.Form.{IsFormOf}
pub use Rattle.hn_forms.specs.Node.{IsNodeRun, PlainCall}
pub use Rattle.hn_forms.specs.declared.words.Form.TheVariants.{Decode, Lab, Node, Soak, Udp, Watch}
pub use Rattle.hn_lab.specs.Lab.{IsLabRun}
pub use Rattle.hn_script.specs.Field.{IsNumberText}
pub use Rattle.hn_world.specs.SeenWorld.{world_parts}
pub use Rattle.hn_world.specs.declared.parts.Parts.{Parts}
pub use Rattle.std.specs.Prelude.{Contains}
