pub mod Answers
pub mod Fields
pub mod Groups
pub mod Meaning
pub mod Protocols
pub mod Views
