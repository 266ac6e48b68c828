pub mod Types
-- An entry and its line.
pub mod Cutting
pub mod Entries
pub mod Fields
pub mod Laws
pub mod Kinds
pub mod Numbers
pub mod Reading
pub mod Rows
pub mod Sorts
-- The list that lines give.
pub mod Lists
pub mod ListMaking
pub mod Runs
-- The page that lines make.
pub mod Making
pub mod Pages
pub mod Texts
pub mod PageLaws
