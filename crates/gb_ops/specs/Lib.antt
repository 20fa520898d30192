pub mod Calls
pub mod Finding
pub mod Listed
pub mod Operations
pub mod Places
pub mod Tables
