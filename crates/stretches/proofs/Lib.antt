pub mod Bits
pub mod Planning
pub mod Advancing
