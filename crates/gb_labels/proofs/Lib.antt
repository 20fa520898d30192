mod Bits
mod Drawing
mod Marks
