pub mod Grammar
pub mod View
pub mod Padding
pub mod Laws
