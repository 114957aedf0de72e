pub mod Back
pub mod Errors
pub mod Building
pub mod Naming
pub mod Joining
pub mod Composing
pub mod Bundling
pub mod Remapping
