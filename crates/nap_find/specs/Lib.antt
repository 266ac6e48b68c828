-- What a find is.
pub mod Searching
pub mod Shapes
pub mod ShapeLaws
pub mod Readings
pub mod Beginnings
pub mod Ends
pub mod Verdicts
pub mod Rows
pub mod Finders
pub mod Laws
