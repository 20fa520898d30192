-- Identifiers and ends of connections.
pub mod LowRequests
pub mod Single
pub mod NoneLeft
pub mod Endpoints
