pub mod Bits
pub mod Coding
pub mod LostCells
pub mod Stretches
pub mod Tables
pub mod Widening
