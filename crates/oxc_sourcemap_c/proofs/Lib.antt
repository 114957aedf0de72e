pub mod ReadBack
pub mod Values
pub mod Memory
pub mod TextLists
pub mod Lends
pub mod Filling
pub mod Traced
pub mod Shown
pub mod Passing
pub mod Characters
pub mod Buffers
mod Building
pub mod MapsOfMaps
pub mod Failing
pub mod Located
pub mod Planned
pub mod Told
