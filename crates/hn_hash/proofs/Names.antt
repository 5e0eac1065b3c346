-- The names that proofs of this crate cite most, handed on from one place. Declares nothing.
pub use Rattle.hn_base.proofs.FrontOfList.{same_parts}
pub use Rattle.hn_hash.specs.Agreement.{IsFirstDifference, body_at}
pub use Rattle.hn_hash.specs.Hash.{hash_of}
pub use Rattle.hn_hash.specs.Network.{AreNumbered, bodies, leaf_entry, leaf_text, part_text}
pub use Rattle.hn_hash.specs.declared.leaf.Leaf.{Leaf}
pub use Rattle.hn_hash.specs.declared.part.Part.{Part}
pub use Rattle.md5.specs.Md5.{Holds, digest_bytes, md5}
