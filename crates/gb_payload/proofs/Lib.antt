pub mod ControlLaws
pub mod Places
pub mod Spelt
pub mod SvcLaws
pub mod Tables
pub mod Written
