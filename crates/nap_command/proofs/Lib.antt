unfoldable pub use Common.*
mod Common
pub mod CommandLemmas
pub mod FrontLemmas
pub mod LineLemmas
mod SessionLemmas
pub mod LawLemmas
mod RunBounds
mod CodeBounds
pub mod PublicLaws
