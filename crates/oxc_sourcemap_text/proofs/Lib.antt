pub mod Cuts
pub mod Starts
pub mod Pairs
pub mod Steps
pub mod Inverse
pub mod Calls
mod PositionsWorked
pub mod Bytes
mod Chars
mod Pieces
mod Blocks
mod LineCuts
mod Spaces
mod Placed
mod Appended
mod Last
mod Apart
mod LinesKept
mod UrlWorked
