pub mod Reversed
pub mod Rows
pub mod Words
