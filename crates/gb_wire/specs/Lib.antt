pub mod Decoding
pub mod Feeding
pub mod MessageOf
pub mod Streams
