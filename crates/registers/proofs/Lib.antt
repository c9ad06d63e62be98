pub mod Bytes
pub mod Passing
pub mod Entering
pub mod Sliding
pub mod Tracks
