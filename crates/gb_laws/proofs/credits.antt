-- Credits.
pub mod CreditsKept
pub mod CreditsLines
pub mod CreditsMoved
pub mod CreditsServed
pub mod CreditsDelivered
pub mod CreditsRuns
