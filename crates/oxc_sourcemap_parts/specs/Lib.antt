pub mod Record
pub mod Roots
pub mod Views
pub mod Sorted
pub mod Sound
pub mod DecodedMap
pub mod Texts
pub mod Words
