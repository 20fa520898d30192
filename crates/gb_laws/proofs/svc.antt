-- The supervisory controller: its connection, its queue, levels, wires.
pub mod SvcThere
pub mod SvcItems
pub mod SvcKinds
pub mod SvcMoves
pub mod SvcOrder
pub mod StillWaiting
pub mod Levels
pub mod Powering
pub mod StayPlugged
pub mod WiredWell
pub mod WiredPlugs
pub mod WiredRuns
pub mod WiredRemembered
pub mod WiredOnce
pub mod WiredOnceRuns
