pub mod Originals
pub mod Pieces
pub mod Spaces
pub mod CutRows
pub mod Appends
pub mod LineEnds
pub mod Standing
pub mod Marked
pub mod FirstTexts
pub mod LineCounts
pub mod Sums
pub mod Lcov
pub mod CoveredApart
pub mod Around
pub mod CountedLines
pub mod MissedRanges
pub mod Masks
pub mod Drained
mod Objects
mod Worked
