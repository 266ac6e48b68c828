-- Passes on the lemmas that answers cite. Declares nothing.
pub use Rattle.nap_reader.proofs.Base.{AreAdded, bound, exceeds_in, IsPlain, Lawful, TookMore, at_prefix, are_characters, begins, body_ended, body_next, bound_grown, byte-placed_by_step, bytes_of-placed, bytes_of-placed_by_step, can_few, can_inside, can_less, can_next, can_pass, eighth_front, either_added, ended_is, ends_run, ends_still, escape_added, escape_full, first_byte, following_in_body, frames-push, frames-store, frames-unread, front_made, gives, grown, grown_by, has_read_by, has_read_past_stop, in_block, last-frame, leads_machine, leads_unrefused, length-all_at, length-next, length-placed_by_step, length-sublist, length-unread-push, lone_escape, no_some, none_bound, none_left, of_text_is, on_ok_by, opcode_alone, opens_drawn, other_mask, pair_added, pair_full, passes_next, past_block, piece_next, place_at-placed_by_step, plain_added, plain_full, prefix_all, run_breaks, run_refused, state_of, stays, still_known, stops_own, taken_inside, unread-push, unread-store, unread-store_grown, whole_run_is}
pub use Rattle.nap_reader.proofs.CodesLemmas.{EndsCode, IsRuled, IsTextOf, Lexes, acts, binds, codes_from, empty_call_takes, fault_takes, half_takes, length-rest_of, lexes_alone, opcode_read, rested, stopped_from, strays_takes, text_halts, text_taken}
pub use Rattle.nap_reader.proofs.CollectLemmas.{Gives, broke_off, collected, memory_fault, ends_at_end, feeds, gives_more, piece_ends, refused_early}
pub use Rattle.nap_reader.proofs.CountingLemmas.{made, puts, puts_none, refused_alike, taken_of}
pub use Rattle.nap_reader.proofs.DefineLemmas.{adds_none, after_escape, body_fills, body_goes, body_lacks, body_stops, bound_goes, fill_passes, next_byte, plain_slice, shown_goes, shown_lacks, shown_stops, slice_passes, some_plain}
pub use Rattle.nap_reader.proofs.FurtherLemmas.{begins_piece, byte_stops, call_goes, call_moved, call_refuses, comes_rested, goes_less, goes_nowhere, goes_then, grown_moves, is_open, keep_lacks, moves_then, next_same, other_lacks, own_fault, same_input, smaller, stop_passes, stops_from, stops_then, stores_can, stores_moves, takes_piece, to_come, turn_counts, turn_goes, turn_is, turn_less, turn_passes, turn_stops, turn_takes, unrefused}
pub use Rattle.nap_reader.proofs.RunLemmas.{run_spares, Joins, RunsWhole, opcode_acts, opcode_stops, operands_in, over_after, run_acts, run_lacks, run_starts, run_stops, run_too_long, run_waits}
pub use Rattle.nap_reader.proofs.TextBlockLemmas.{LeavesOthers, all_pass_first, cleared_less, ends_at, goes_through, leaves_fewer, leaves_others, next_within, past_text}
pub use Rattle.nap_reader.proofs.TextLemmas.{are_typed}
pub use Rattle.nap_reader.proofs.TakingLemmas.{asked_is, idle_lives, idle_takes, kept_as, next_in_slice, own_spares, own_tells, place_at-drop, takes_none, takes_then, takes_under, under_then, works_on}
pub use Rattle.nap_reader.proofs.WholeCodeLemmas.{acting, alone_acts, alone_nothing, alone_stops, begins_after_escape, begins_now, begins_one, call_found, defining, ends_first, found_acts, found_call, found_defines, found_fills, found_nothing, found_stops, found_within, left_rested, nothing_found, whole_call, whole_nothing, whole_ruled, whole_stops, Drawing, EndsWith}
