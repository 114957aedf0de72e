pub mod Arguments
pub mod Request
pub mod Flags
pub mod Traced
pub mod Answer
pub mod ErrorPlaces
pub mod Words
