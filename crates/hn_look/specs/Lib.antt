pub mod Events
pub mod Steps
pub mod Log
pub mod LastLine
pub mod Look
pub mod Form
