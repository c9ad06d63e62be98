pub mod Shifts
pub mod Errors
pub mod Lows
pub mod Pivots
pub mod Strides
pub mod Complete
pub mod Sound
pub mod Implied
