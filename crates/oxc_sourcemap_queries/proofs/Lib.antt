pub mod Runs
pub mod Order
pub mod Found
pub mod Cutting
pub mod Held
mod PiecesWorked
pub mod Walked
pub mod Sources
mod DifferWorked
