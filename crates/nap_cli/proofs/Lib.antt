unfoldable pub use Common.*
mod Common
pub mod CommandLineLemmas
pub mod ExplainLemmas
