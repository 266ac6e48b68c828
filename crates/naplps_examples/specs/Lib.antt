pub mod Listing
pub mod Converting
pub mod Extents
