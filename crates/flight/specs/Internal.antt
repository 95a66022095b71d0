pub mod Inside
pub mod Left
pub mod WindowParts
pub mod Units
