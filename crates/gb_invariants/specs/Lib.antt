pub mod Attaching
pub mod Facts
