pub mod Lengths
mod UndueUntilDue
