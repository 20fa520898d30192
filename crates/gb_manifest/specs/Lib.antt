pub mod Checks
pub mod Declarations
pub mod Met
pub mod Values
pub mod Walks
pub mod Writes
