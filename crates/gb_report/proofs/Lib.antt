pub mod DigitsText
pub mod DumpAscii
pub mod DumpText
pub mod SummaryAscii
