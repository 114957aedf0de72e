pub mod Fitted
pub mod SameToken
pub mod Joining
pub mod Moving
pub mod IgnoreLists
pub mod Adding
pub mod Worked
