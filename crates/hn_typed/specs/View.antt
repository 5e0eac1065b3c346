-- The items of the program, as contracts see them.
pub use Rattle.hn_base.specs.Caps.{plain_caps}
pub use Rattle.hn_typed.specs.Item.{plain_item}
