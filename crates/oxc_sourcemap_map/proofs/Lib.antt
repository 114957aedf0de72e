pub mod Picks
pub mod Numbers
pub mod Runs
pub mod Nearest
pub mod ReverseParts
pub mod ReverseFound
pub mod Searched
pub mod Lines
pub mod Passing
pub mod LeadBack
pub mod RoundTrips
mod ReverseWorked
mod RoundTripsWorked
pub mod GivenIds
pub mod NameIds
mod BuildersWorked
pub mod Appends
pub mod KnownContents
pub mod Printing
pub mod SourceEnds
mod VisualizerWorked
