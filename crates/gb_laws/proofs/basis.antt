-- The basis: the bus and its loose items.
pub mod Basics
pub mod BasisParts
pub mod Loosening
pub mod Unheld
