-- Passes on the lemmas about the reading state and the next bytes. Declares nothing.
pub use Rattle.nap_reader.proofs.BreakLemmas.{body_ended, breaks_byte, breaks_inside, breaks_place, breaks_there, closed_first, ended_is, ends_run, ends_still, lacks_there, own_breaks, run_breaks, run_first, run_refused, same_first}
pub use Rattle.nap_reader.proofs.NextByteLemmas.{body_next, exceeds_in, bound_grown, byte-placed_by_step, bytes_of-placed_by_step, can_few, can_inside, can_less, can_next, can_pass, drop_next, first_byte, first_of, following_in_body, frames-push, frames-store, frames-unread, gives, grown, grown_by, last-frame, length-next, length-placed, length-placed_by_step, length-sublist, length-unread-push, none_bound, none_left, passes_next, piece_next, place_at-placed_by_step, split_bytes, state_of, take_next, taken_inside, unread-push, unread-store, unread-store_grown, bound, still_known}
pub use Rattle.nap_reader.proofs.LawLemmas.{more_bytes_keep_entries}
pub use Rattle.nap_reader.proofs.OpenBodyLemmas.{AreAdded, IsPlain, body_begins, body_bound, body_grows, body_over, body_refused, body_shows, eighth_front, either_added, escape_added, escape_full, lone_escape, pair_added, pair_full, pending_body, plain_added, plain_full, space_for, state_with_body}
pub use Rattle.nap_reader.proofs.OperandLemmas.{at_prefix, in_block, more_words, of_text_is, operands_prefix, other_mask, past_block, prefix_all, run_over, same_words, whole_run_is}
pub use Rattle.nap_reader.proofs.PartLemmas.{fails_spare, Fails, Known, breaks_after, breaks_longer, breaks_more, code_breaks, took_prefix}
pub use Rattle.nap_reader.proofs.ReadingLemmas.{Lawful, TookMore, WantsMore, as_list, begins, by_itself, byte_refused, code_continues, code_ends, code_over, front_code, front_run, half_read_pauses, holds_nothing, is_between, is_half, leads_entries, leads_left, leads_machine, leads_on, leads_past, leads_shown, leads_to_fault, leads_to_refusal, leads_unrefused, list_more, on_ok_by, opcode_of_kind, open_run_pauses, opens_drawn, pays, rest_of_nothing, run_opens, was_failed, word_joins, word_too_many}
unfoldable pub use Rattle.nap_reader.proofs.ReadingLemmas.{leads_more}
pub use Rattle.nap_reader.proofs.SpelledLemmas.{KindMade, acts_itself, are_characters, binds_code, escape_steps, escape_unfinished, fill_front, front_kind_made, front_made, nothing_yet, opcode_alone}
pub use Rattle.nap_reader.proofs.HasReadLemmas.{has_read_by, has_read_past_stop, stays, taken_all, taken_more}
pub use Rattle.nap_reader.proofs.StepLemmas.{IsAt, acted_then, acts_ahead, all_prefix, all_rest, as_it_was, breaks_here, cannot_stops, code_fault_own, conveys_nothing, lacks, leads_nowhere, leads_then, no_some, stops_now, stops_own, stops_run, stops_then}
pub use Rattle.nap_reader.proofs.StreamLemmas.{Fronts, IsOfWords, Puts, acts, by_code, by_rule, bytes_of-append, bytes_of-placed, front_fronts, length-all_at, outcome_from-front, pauses, place_at-append, prepend-append, puts_nothing, refuses}
