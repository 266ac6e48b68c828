unfoldable pub use Common.*
mod Common
pub mod Breaks
pub mod PublicLaws
pub mod KnownLemmas
pub mod Batches
