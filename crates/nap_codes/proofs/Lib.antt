unfoldable pub use Common.*
mod Common
pub mod TableLemmas
pub mod FrontLemmas
pub mod SpellingLaws
pub mod LexerLemmas
pub mod PublicLaws
