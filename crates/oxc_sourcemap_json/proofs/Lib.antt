mod PlainBlocks
mod Converted
mod HeldMembers
mod HeldShape
pub mod Moving
mod PlainTokens
pub mod ShapeSpots
mod Tokens
mod ObjectWorked
pub mod UnescapedBlocks
pub mod JsonString
pub mod EscapedText
pub mod CanonicalPlain
pub mod Separated
pub mod Appends
pub mod JsonTexts
pub mod Items
pub mod ManyLines
mod WriteWorked
pub mod ReadSound
pub mod JoinLimits
pub mod LineOrder
pub mod InRange
pub mod Ends
pub mod SectionSteps
pub mod SectionPlaces
pub mod ReadPlaces
pub mod WellRead
mod ReadWorked
pub mod NotJson
mod FaultWorked
pub mod TextBytes
