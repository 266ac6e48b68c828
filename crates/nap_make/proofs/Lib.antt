unfoldable pub use Common.*
mod Common
pub mod ValueLemmas
pub mod FieldLemmas
pub mod LineLemmas
pub mod LawLemmas
pub mod PublicLaws
pub mod CharLemmas
pub mod FeedLemmas
pub mod PageLemmas
pub mod AgreeLemmas
