-- The names that most definitions cite, passed on from one place. Declares nothing.
pub use Rattle.nap_reader.specs.Names.{Cause, CharSet, Code, CodeSets, DrawFault, DrawsBy, Entry, Ghosts, HaltsAfter, IsDrawn, IsGraphic, IsTextByte, LexerState, Opcode, RuleResult, SinkFault, code_rule, device, fault_of, memory, rule, run_limit, sink_model_of, stream}
pub use Rattle.nap_reader.specs.Bodies.{BodyFront, Mode, at_escape, between, body_of, ended, ends_body, in_body, no_names, one_byte_longer, refused, store_limit, stores, unfinished}
unfoldable pub use Rattle.nap_reader.specs.{Bodies.body_front, Course.outcome, Course.outcome_within, Framed.placed_by_step, Stream.stream_front, Stream.placed_from}
pub use Rattle.nap_reader.specs.Breaking.{BreaksAt, BreaksAtByte, BreaksBetween, BreaksFrom, BreaksInRun, BreaksWith, BreaksWithin, CanBreakAt, CanLackAt, IsCharged, LacksWithin, NeverWants, TakesPart, TookPart, TookPrefix, WantsMemory, cause_of, closed_by, open_place, run_place}
pub use Rattle.nap_reader.specs.Course.{act, continue, continue_by, outcome_by_front, pause, paused, prepend, refuse}
pub use Rattle.nap_reader.specs.{Faults.code_fault, Faults.draw_fault, declared.body.OpenBody.OpenBody, declared.fault.Fault.Fault, declared.fault.Refusal.Refusal, declared.input.Input.Input, declared.machine.OpenRun.OpenRun, declared.reader.Reader.Reader}
pub use Rattle.nap_reader.specs.Framed.{FramesIn, Innermost, IsFrame, frame_bytes, placed_at, unread}
pub use Rattle.nap_reader.specs.ReadingStates.{AreOfBody, ArePending, ArePendingBetweenCodes, ArePendingBy, ArePendingIn, Continues, Ends, IsOpenBody, IsOpenRun, IsOwn, IsRefused, Leads, Owes, ReadingState, RunAt, body_front_after, kept_list, machine_of, mode_of, pending_escape, reading_state, reading_state_by, run_by, unfinished_by, unfinished_of, unread_of}
pub use Rattle.nap_reader.specs.Stream.{StreamFront, Machine, Outcome, Placed, Unfinished, after_body, after_charge, after_drawing, all_at, begun, body_front_by, bound_front, bytes_of, code_front, drawn_front, ended_by, ends_of, front_by, front_in, half_code, half_read, is_operand, is_operand_byte, means, nothing, opened_front, open_body, open_run, outcome_from, place_at, refusal, run_front, run_length, shown_front, start_machine, with_code, with_definition, with_drawn, with_end, with_run, with_run_by, carried_words}
pub use Rattle.nap_reader.specs.declared.fault.Fault.TheVariants.{Budget, EighthBit, LongRun, Memory, Sink, Store, Stray, Unended}
