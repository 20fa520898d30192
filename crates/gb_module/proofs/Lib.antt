pub mod Counting
pub mod Loading
pub mod Standing
pub mod Stepping
