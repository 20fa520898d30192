pub mod Asks
pub mod Bridged
pub mod Runs
pub mod Stepping
pub mod Weights
