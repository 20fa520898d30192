pub mod Climbs
pub mod Ladders
pub mod Others
pub mod Places
pub mod Ports
pub mod Slots
pub mod WaitingEnds
