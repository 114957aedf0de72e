pub mod Carried
pub mod InOrder
pub mod Fits
pub mod Last
