-- What proofs of the crates above may cite.
pub use Rattle.nap_command.proofs.{CommandLemmas.is_memory, LineLemmas.still_refused}
