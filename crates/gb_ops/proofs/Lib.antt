mod Changing
mod Dues
mod Keeping
pub mod Listing
mod Maps
mod Placed
