pub mod Lending
pub mod Loading
pub mod Numbered
