pub mod Texts
pub mod Positions
pub mod Matching
pub mod Paths
pub mod Words
