pub mod Digits
pub mod Lookup
pub mod Biased
pub mod LineSpans
pub mod Trace
pub mod Words
