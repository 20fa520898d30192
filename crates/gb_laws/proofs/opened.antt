-- What is open.
pub mod Opens
pub mod OpenActs
pub mod OpenKept
pub mod OpenRuns
pub mod OpeningTold
pub mod ToldLinks
pub mod ToldRuns
pub mod LedByShut
pub mod ClosingTold
pub mod FarItems
pub mod FarOpen
pub mod FarOpenKept
pub mod FarOpenLeft
pub mod FarOpenRuns
