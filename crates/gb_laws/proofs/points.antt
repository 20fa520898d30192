-- Points of a step, single changes, and laws of points.
pub mod Loadings
pub mod PointParts
pub mod Points
pub mod ChangeBuses
pub mod ChangeHosts
pub mod Awaited
pub mod Pulls
pub mod PointToPoint
pub mod Places
pub mod ToldSince
pub mod Silent
pub mod Happened
pub mod Overdue
pub mod Naming
pub mod LowTypes
pub mod LoaderFacts
