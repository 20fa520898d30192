-- What is said of every run, and all laws together.
pub mod Absent
pub mod Routed
pub mod EveryRun
pub mod Together
