pub mod RangePieces
pub mod Cuts
pub mod RangeLaws
pub mod Differences
pub mod Originals
pub mod Walk
pub mod Words
