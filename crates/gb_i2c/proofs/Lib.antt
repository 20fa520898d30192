pub mod Places
pub mod Running
pub mod Sizes
pub mod Surveys
