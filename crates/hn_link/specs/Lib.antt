pub mod CommonLink
pub mod Election
pub mod Standing
pub mod Laws
