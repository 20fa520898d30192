pub mod Calls
pub mod Prefixes
pub mod LittleEndian
pub mod Marks
pub mod Names
