pub mod Bridged
pub mod Levels
pub mod Refusals
