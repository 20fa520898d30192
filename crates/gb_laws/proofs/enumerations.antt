-- Enumerations.
pub mod AskedWaits
pub mod Asked
pub mod Enums
pub mod EnumRequests
pub mod EnumNone
pub mod EnumDone
pub mod EnumTurns
pub mod EnumSettled
pub mod EnumSettledRuns
pub mod EnumLinks
pub mod EnumRuns
pub mod DoneTurns
pub mod DoneStays
pub mod AwaitsOwn
pub mod AwaitsNewest
pub mod Behind
pub mod BehindRuns
