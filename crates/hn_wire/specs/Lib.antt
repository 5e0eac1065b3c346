pub mod Memory
pub mod Wires
pub mod Clocks
