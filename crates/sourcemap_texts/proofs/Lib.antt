pub mod Numerals
pub mod Longest
pub mod OwnFolder
pub mod LastCuts
pub mod LentTexts
pub mod Climbs
pub mod Ways
pub mod Moves
pub mod ToldApart
mod Worked
