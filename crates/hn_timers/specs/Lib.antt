pub mod Due
pub mod Interval
pub mod KeepAlive
pub mod Laws
pub mod Length
pub mod Trickle
