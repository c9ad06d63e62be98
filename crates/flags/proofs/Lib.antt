pub mod Bits
pub mod Lost
