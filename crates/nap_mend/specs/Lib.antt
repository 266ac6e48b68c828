-- Where the page is in a file.
pub mod Sets
pub mod Files
pub mod Bits
pub mod Codes
pub mod Headers
pub mod Plain
pub mod Pages
pub mod Counts
pub mod Mending
pub mod Laws
