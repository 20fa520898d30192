-- What tickets need: requests stay, end as told, and are those that were asked.
pub mod Tickets
pub mod TicketEnds
pub mod TicketLines
