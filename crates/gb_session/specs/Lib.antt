pub mod Reporting
pub mod Sessions
