-- How requests end.
pub mod ReplyHands
pub mod Replying
pub mod Replies
pub mod Ended
pub mod Answering
pub mod EndCauses
pub mod Causes
pub mod DrainedEnds
