pub mod Table
pub mod Pairs
pub mod Parts
pub mod Law
pub mod OneCell
pub mod Testing
pub mod Adding
pub mod Copies
