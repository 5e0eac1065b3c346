pub mod Due
pub mod Facts
pub mod Laws
pub mod Marks
pub mod Pair
