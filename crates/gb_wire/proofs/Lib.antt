pub mod Decoded
pub mod Feeding
pub mod Spellings
pub mod StreamDivisions
