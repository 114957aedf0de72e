pub mod InheritedNames
pub mod KeptNames
pub mod Targets
pub mod Replaced
pub mod Compositions
mod ComposeWorked
pub mod Sorting
pub mod SortUnique
pub mod Stable
pub mod Lookups
mod SortWorked
pub mod Indices
pub mod NeededNames
pub mod Flags
pub mod InputPlaces
pub mod SourceBlocks
pub mod Gathered
pub mod MovedSources
mod RemapWorked
pub mod Same
pub mod SimplifyScan
pub mod SimplifyKeeping
pub mod Order
pub mod Unique
pub mod Traces
pub mod NeededPlaces
pub mod Means
pub mod Sound
pub mod Twice
pub mod Fewer
pub mod Codes
pub mod NextNumbers
pub mod SimplifyFound
pub mod Listed
pub mod SimplifyTables
pub mod Assembled
pub mod Moved
pub mod FirstOnes
pub mod Needed
pub mod OwnFirsts
pub mod Renumbered
pub mod NewIds
pub mod SimplifyKept
pub mod SimplifyWalk
mod SimplifyWorked
