pub mod Auditors
pub mod Audits
pub mod Captures
pub mod Pairing
pub mod Tables
