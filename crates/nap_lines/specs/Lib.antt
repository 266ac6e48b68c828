pub mod Batches
pub mod Blocks
pub mod Lines
pub mod Listing
pub mod Parts
pub mod Printing
pub mod PrintingLaws
pub mod Writing
