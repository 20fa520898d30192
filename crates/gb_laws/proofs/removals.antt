-- Removals that wait.
pub mod Quiet
pub mod QuietBuses
pub mod QuietKept
pub mod QuietTaken
pub mod QuietReplies
pub mod QuietServed
pub mod QuietEnums
pub mod QuietPower
pub mod QuietAsking
pub mod QuietAwaited
pub mod QuietTurns
pub mod QuietLaw
pub mod QuietRuns
pub mod QuietBefore
