pub mod HexLines
pub mod Starts
