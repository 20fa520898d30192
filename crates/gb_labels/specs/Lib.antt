pub mod Drawing
pub mod LabelSet
pub mod Marks
