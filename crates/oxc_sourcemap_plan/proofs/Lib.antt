mod ReadBack
pub mod ReadsBack
pub mod Rewriting
pub mod DroppingRepeats
pub mod Same
pub mod UpToRepeats
pub mod Seams
pub mod Joins
pub mod JoinDecodedMaps
pub mod JoinStands
pub mod Sections
pub mod Compositions
pub mod ComposedNames
pub mod Groupings
pub mod ComposedBounds
pub mod Blocks
pub mod IgnoredSources
pub mod RemappedRecords
pub mod RemappedMaps
pub mod RemappedStands
pub mod RemappedNames
pub mod RemappedBounds
pub mod Rooting
pub mod TracesComposed
pub mod TracesRemapped
pub mod TracesMoved
pub mod TracesRising
pub mod TracesJoined
mod Bundles
pub mod TracesSimplified
pub mod SimplifiedMaps
pub mod SimplifiedWhole
pub mod SimplifiedNeeded
pub mod Differences
pub mod RemapInputs
pub mod FaultSegments
mod PieceCuts
mod LineFeeds
mod CommentCuts
mod CutsWorked
mod TracesWorked
mod WorkedRemaps
mod LawsWorked
mod WorkedTexts
mod WorkedWholes
pub mod Plans
pub mod KnownNames
pub mod Decoding
pub mod Realizing
pub mod Remapping
pub mod Simplifying
pub mod Meanings
pub mod Reading
pub mod Parts
pub mod Answering
mod Sorting
mod Worked
pub mod PlanTexts
pub mod Unread
pub mod Meant
pub mod Told
mod SameTexts
mod InputTexts
pub mod Numbered
mod PlacesWorked
pub mod Digits
pub mod PlanInputs
pub mod PlanArguments
pub mod PortErrors
mod ArgumentsWorked
