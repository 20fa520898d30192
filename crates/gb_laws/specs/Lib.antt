pub mod NoneLeft
pub mod OwnSide
pub mod OwnWaits
pub mod OwnWires
pub mod Possible
pub mod Readings
pub mod Tickets
