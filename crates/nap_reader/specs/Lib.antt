-- What a stream means.
pub mod Bodies
pub mod Budgets
pub mod Course
pub mod Faults
pub mod Kinds
pub mod Stream
-- What a reader answers about a stream.
pub mod Breaking
pub mod ReaderAnswers
pub mod Looking
pub mod Feeding
pub mod Laws
pub mod Collecting
pub mod Counting
pub mod Twice
-- What a reader keeps and does, which no caller sees.
pub mod Shared
pub mod Carried
pub mod Stored
pub mod Framed
pub mod Prefix
pub mod ReadingStates
pub mod Steps
pub mod NextBytes
pub mod Pieces
pub mod Names
