pub mod Compiles
pub mod Exports
pub mod Files
