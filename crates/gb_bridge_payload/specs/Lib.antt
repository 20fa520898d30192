pub mod Conditions
pub mod Fronts
pub mod Protocols
pub mod Serving
pub mod Views
