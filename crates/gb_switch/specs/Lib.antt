pub mod Climbing
pub mod Levels
pub mod Places
pub mod Queue
pub mod Stands
pub mod WaitingEnds
