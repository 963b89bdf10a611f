-- What crates above may cite, one file a subject.
pub mod Addresses
pub mod Blank
pub mod FreshSegment
pub mod FullSegments
pub mod HeapWords
pub mod Lanes
pub mod Opening
pub mod Reads
pub mod Regions
pub mod Stops
