unfoldable pub use Common.*
mod Common
pub mod WritingLemmas
pub mod PrintLemmas
