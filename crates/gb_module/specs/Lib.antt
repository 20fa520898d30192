pub mod DeclaredPorts
pub mod Few
pub mod Loading
pub mod Places
pub mod Steps
pub mod Stirring
pub mod Turning
pub mod Views
