pub mod Bodies
pub mod Families
pub mod Hexadecimal
pub mod Sharings
pub mod Sides
pub mod Texels
