pub mod Bridged
pub mod InTurn
pub mod Kept
pub mod Lent
