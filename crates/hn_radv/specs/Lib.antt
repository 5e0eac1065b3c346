pub mod Sender
pub mod Inside
pub mod Runs
pub mod Laws
