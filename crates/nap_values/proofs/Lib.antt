unfoldable pub use Common.*
mod Common
pub mod SpreadLemmas
pub mod OperandLemmas
pub mod PublicLaws
mod DigitLemmas
mod WordLemmas
mod ColourLemmas
mod MotionLemmas
mod CoarseLemmas
