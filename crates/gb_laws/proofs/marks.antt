-- Facts on marks: insertions and removals that wait.
pub mod Wholes
pub mod Marks
pub mod MarkNotices
pub mod MarkTells
pub mod MarkTakes
pub mod PlugParts
pub mod MarkPlugs
pub mod MarkBoots
pub mod PullParts
pub mod MarkPulls
pub mod MarkHosts
pub mod MarkKnown
pub mod MarkFrame
pub mod MarkMoments
pub mod Noted
