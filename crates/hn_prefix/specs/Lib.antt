pub mod AddressText
pub mod Free
pub mod Gap
pub mod Laws
pub mod PrefixText
pub mod Reading
