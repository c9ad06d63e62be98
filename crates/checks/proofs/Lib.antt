pub mod Refusing
pub mod Telling
