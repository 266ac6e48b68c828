pub use Rattle.nap_list.specs.Walks.{fits_join, walks_join}
pub use Rattle.nap_list.proofs.Batches.{agreeing_fits, batch_is_current, start_agrees, taking_nothing, text_leaves, typed_made}
pub use Rattle.nap_list.proofs.Breaks.{legal_never_breaks}

-- The laws that crates above cite.

-- those that `auto` needs
pub ruleset laws = (fits_join, start_agrees, taking_nothing, text_leaves, typed_made, walks_join)
