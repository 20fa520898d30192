-- What is taken: by whom, and from which connection.
pub mod Owning
pub mod OwnReplies
pub mod Owned
pub mod TakenQueues
pub mod TakenTells
pub mod TakenActs
pub mod TakenModules
pub mod TakenServed
pub mod TakenKnown
pub mod Taken
pub mod Foreign
