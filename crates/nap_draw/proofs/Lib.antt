unfoldable pub use Common.*
mod Common
pub mod Execution
pub mod Fits
pub mod PublicLaws
pub mod Ranges
pub mod Results
pub mod Runs
pub mod Walks
