unfoldable pub use Common.*
mod Common
mod AnswerLemmas
mod ValueLemmas
pub mod LawLemmas
