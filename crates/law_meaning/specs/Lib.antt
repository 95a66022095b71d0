pub mod Declared
pub mod DeclaredLaws
pub mod Kept
pub mod Laws
