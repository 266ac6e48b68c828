unfoldable pub use Common.*
mod Common
pub mod Preludes
pub mod PlainCodes
pub mod Operands
pub mod Pieces
pub mod Spelling
pub mod ReadingBack
pub mod PlainLengths
pub mod Texts
pub mod JoinedEntries
pub mod Sinks
pub mod Conversions
pub mod PublicLaws
