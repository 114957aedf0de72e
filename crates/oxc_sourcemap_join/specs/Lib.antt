pub mod Joined
pub mod Joining
pub mod Words
