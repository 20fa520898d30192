-- From moments to all runs.
pub mod Runs
pub mod SettleQueues
pub mod Settles
pub mod Settling
pub mod AllRuns
pub mod Midway
pub mod Noticing
pub mod OfStates
pub mod Reached
