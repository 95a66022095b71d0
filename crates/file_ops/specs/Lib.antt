pub mod Funs
pub mod Kinds
pub mod Mixes
pub mod OpFits
pub mod OpReading
pub mod OpWriting
pub mod Rects
