-- Passes on the names that proofs cite. Declares nothing.
pub use Rattle.nap_codes.proofs.PublicLaws.{code_is_spelled, code_length, code_ranges, code_stays, code_taken, earlier_unfinished, format_effector_front, one_byte_opcode, refused_index, refused_stays}
unfoldable pub use Rattle.nap_codes.specs.CodeSets.{after_control0}
pub use Rattle.nap_reader.specs.Names.{Acts, AllInRange, BatchFault, Cause, CharSet, Code, CodeFault, CodeSet, CodeSets, Consumes, DefinitionsAgree, DrawFault, DrawsBy, Entry, FaultMatchesDevice, Ghosts, GivesSome, HaltsAfter, IfSome, InRange, IsCodeInRange, IsCutOff, IsDrawn, IsGraphic, IsMade, IsNextOf, IsOpcode, IsOperandByte, IsReadWhole, IsTextByte, IsTrue, IsWord, Legal, LexerState, NoneFailed, Opcode, OpenDefinition, Put, PutSome, Reading, RuleResult, SinkFault, SinkModel, Spells, State, StateInRange, StatesAgree, Step, Steps, StepsBy, TextStep, WantsBy, WantsFor, Work, after, and_self, batch_entries, bit_and, bit_at, clears_macros, code_as, code_rule, complete, device, entry_of_shape, fault_of, format_effector, front, hand_of, is_fill, mask_rows, memory, next_of, next_of_code, operand_words, prefix_len, reading, reads_limit, rule, rule_result, run_limit, set_at, set_rows, sets_after, sink_model_of, slice_get, slice_index, start, start_sets, stream, text_code, text_entry, trailing_zeros, unwrap_or, vec_capacity, vec_len, ⊤, ◌/◌}
unfoldable pub use Rattle.nap_codes.specs.Tables.{control1_rows, opcode_rows}
pub use Rattle.nap_codes.specs.declared.code_set.CodeSet.TheVariants.{Macros}
pub use Rattle.nap_draw.proofs.PublicLaws.{code_fits, code_values_are_in_range, drawn_values_are_in_range, opcodes_are_drawn, rule_fits, typed_rule}
unfoldable pub use Rattle.nap_draw.specs.Codes.{drawn_text}
pub use Rattle.nap_list.proofs.PublicLaws.{fits_join, start_agrees, walks_join}
unfoldable pub use Rattle.nap_list.specs.State.{AllFit}
unfoldable pub use Rattle.nap_reader.specs.Names.{control0_rows, row_of, walk}
pub use Rattle.nap_reader.specs.Breaking.{AddsEntries, Begins, PlacedWith, PlacedWithin}
pub use Rattle.nap_reader.specs.Carried.{AllCharacters, HasName, NoCharacters}
pub use Rattle.nap_reader.specs.Collecting.{Collects, CountsAll, IsCollected, IsCount, IsDrained, LacksMemoryFor, RefusedBy}
pub use Rattle.nap_reader.specs.Counting.{CountedSink, GrowsBy, TookCounted, counting}
pub use Rattle.nap_reader.specs.Feeding.{EndsBy, FailsBy, Feeds, StopsInLast}
pub use Rattle.nap_reader.specs.Kinds.{Kind, kind_of}
pub use Rattle.nap_reader.specs.Laws.{AcceptedIsLegal, BegunComesFirst, BreaksAmong, CodeActs, EndBreaksAmong, FedBreaksAmong, FrontAfterFront, IsAlone, IsRun, MoreBytesKeepEntries, MoreBytesKeepRefusal, PiecesAgree, ReadValuesAreInRange, RunActs, RunWaits, WantsSome, in_pieces, joined}
pub use Rattle.nap_reader.specs.NextBytes.{AfterEscape, CanAdvance, CanPass, CannotShow, HasReadOn, IsNextByte, IsNextText, Moves, Position, Reads, StoresBody, bytes_from, next_bytes, past, position_of}
pub use Rattle.nap_reader.specs.Pieces.{AmidCall, Goes, HasMemory, LacksFrom, LeadsTo, Overcharges, Reaches, ReadsFurther, ReadsTo, StopsFrom, TakesSlice}
pub use Rattle.nap_reader.specs.Prefix.{EndsAt, GoesThrough, is_from, is_of_body, is_of_text, is_other}
pub use Rattle.nap_reader.specs.ReaderAnswers.{Answers, AnswersBy, HasRead, IsBroken, IsKnown, IsTaken, StopsAt, StopsBy, budget_of, fed_of, left_of, refusal_of, sink_of}
pub use Rattle.nap_reader.specs.Shared.{AreOfBody, ArePending, ArePendingBetweenCodes, ArePendingBy, ArePendingIn, BodyFront, BreaksAt, BreaksAtByte, BreaksBetween, BreaksFrom, BreaksInRun, BreaksWith, BreaksWithin, Budget, CanBreakAt, CanLackAt, Continues, EighthBit, Ends, Fault, FramesIn, Innermost, Input, IsCharged, IsFrame, IsOpenBody, IsOpenRun, IsOwn, IsRefused, LacksWithin, Leads, LongRun, Machine, Memory, Mode, NeverWants, OpenBody, OpenRun, Outcome, Owes, Placed, Reader, ReadingState, Refusal, RunAt, Sink, Store, Stray, StreamFront, TakesPart, TookPart, TookPrefix, Unended, Unfinished, WantsMemory, act, after_body, after_charge, after_drawing, all_at, at_escape, begun, between, body_front_after, body_front_by, body_of, bound_front, bytes_of, carried_words, cause_of, closed_by, code_fault, code_front, continue, continue_by, draw_fault, drawn_front, ended, ended_by, ends_body, ends_of, frame_bytes, front_by, front_in, half_code, half_read, in_body, is_operand, is_operand_byte, kept_list, machine_of, means, mode_of, no_names, nothing, one_byte_longer, open_body, open_place, open_run, opened_front, outcome_by_front, outcome_from, pause, paused, pending_escape, place_at, placed_at, prepend, reading_state, reading_state_by, refusal, refuse, refused, run_by, run_front, run_length, run_place, shown_front, start_machine, store_limit, stores, unfinished, unfinished_by, unfinished_of, unread, unread_of, with_code, with_definition, with_drawn, with_end, with_run, with_run_by}
unfoldable pub use Rattle.nap_reader.specs.Shared.{body_front, outcome, outcome_within, placed_by_step, placed_from, stream_front}
pub use Rattle.nap_reader.specs.Steps.{Acted, ActsRun, AreCharacters, Breaks, BreaksHere, Calls, CodeTakes, Codes, DoesNothing, EndsRun, Executes, FailsRun, FaultMatchesSink, GrowsOpen, HasRunMemory, IsLive, IsOpcodeByte, IsOver, IsSpared, IsText, IsWholeRun, KeepsMemory, LacksOwn, Latches, LeadsOn, LeadsThrough, Leaves, Passes, Progresses, Refuses, Stops, StopsByte, StopsRun, Takes, TakesBy, TakesSome, TakesUnder, Works, after_run, at_byte, clear_request_if, in_run, state_after_request, with_machine}
pub use Rattle.nap_reader.specs.Stored.{Exceeds, IsBefore, IsStore, StoreState, promised, store_bound, store_grown, store_shown, sublist, sublist_at}
pub use Rattle.nap_reader.specs.Stream.{closed_front, steps_left}
pub use Rattle.nap_reader.specs.Twice.{BreaksOff, EndsEarly}
pub use Rattle.nap_reader.specs.declared.feeding.FeedFault.{FeedFault}
pub use Rattle.nap_reader.specs.declared.feeding.ReadFault.{ReadFault}
pub use Rattle.nap_reader.specs.declared.frames.Frame.{Frame}
pub use Rattle.nap_reader.specs.declared.machine.Request.TheVariants.{Call, Clear, Define, Nothing, Stop}
pub use Rattle.nap_reader.specs.declared.machine.Request.{Request}
pub use Rattle.nap_reader.specs.declared.machine.codes.CodeOutcome.{CodeOutcome}
pub use Rattle.nap_reader.specs.declared.reader.Ahead.{Ahead}
pub use Rattle.nap_reader.specs.declared.store.Promise.{Promise}
pub use Rattle.nap_reader.specs.declared.store.Span.{Span}
pub use Rattle.std.proofs.Common.{All, Bool, Err, Fits, IfErr, IsSome, List, MatchOption, MatchResult, None, Ok, OnErr, OnOk, Option, Result, Some, [], add-zero, ap, append-nil, append_assoc, ap₂, arith, cond, drop, eq-eqb, eqb, false, get_or, if◌then◌else◌, inl, inr, is_err, is_ok, is_some, leb, length, length-append, length-take, ltb, map, nat_lt, not, pow-suc, refl, replicate, rules, set, slice_index_or, subst, suc, sym, take, take-add, true, w8, zero, ℕ, ◌%◌, ◌&&◌, ◌*◌, ◌++◌, ◌+◌, ◌-◌, ◌<◌, ◌^◌, ◌||◌, ◌∙◌, ◌∷◌, ◌≡◌, ◌≢◌, ◌≤◌, ◌⊎◌}
pub use Rattle.std.proofs.KnownBytes.{Consumes-kept, Consumes-nil, Consumes-trans}
pub use Rattle.std.proofs.Math.Bool.{or-false, or-true}
pub use Rattle.std.proofs.Math.ListN.{drop_of_length-le}
pub use Rattle.std.proofs.Math.Nat.{mod_self, zero-add}
pub use Rattle.std.proofs.Math.Seq.{drop-append-add, drop-append_seam, get_or-append_seam, take-append-add, take-append_seam}
pub use Rattle.std.proofs.lemmas.Bool.Decides.{nat_tests}
pub use Rattle.std.proofs.lemmas.Bool.{and_parts, cases_lt, cond-false, cond-true, eqb-false, eqb-true, false≢true, le-leb, le-ltb, leb-false, leb-true, lt-leb, lt-ltb, ltb-false, ltb-true, ne_eqb, not-false, not-true}
pub use Rattle.std.proofs.lemmas.List.Elements.{All-append, All-cons, All-drop, All-head, All-map, All-nil, All-pop, All-push, All-replicate, All-tail, All-take}
pub use Rattle.std.proofs.lemmas.List.Folds.{length-prefix_len, prefix_len-append}
pub use Rattle.std.proofs.lemmas.List.Sums.{prefix_len-drop_yes, prefix_len-le-length, prefix_len_is, prefix_len_passes, prefix_len_stops}
pub use Rattle.std.proofs.lemmas.List.{drop-append-le, drop-drop, drop-map, drop-take, drop_all, drop_at, drop_more, get_or-append-add, get_or-drop, get_or-map, get_or-take, get_or_append_left, length-drop, length-map, length-take-le, map-append, map-set, nil_from_length, same_from_push, take-append-drop, take-append-le, take-map, take-take, take_all, take_at, take_more, take_rest}
pub use Rattle.std.proofs.lemmas.Nat.Bits.{bit_at-pow_other, bit_at-pow_same, bit_at-trailing_zeros, bit_at-zero, bit_at_above, bit_at_cat_high, bit_at_cat_low, same_from_bits_below}
pub use Rattle.std.proofs.lemmas.Nat.{and_block, and_mask, div-add-mod', mod_below, pow_pos}
pub use Rattle.std.proofs.lemmas.Result.{IfErr-weaker, MatchResult-weaker, err_from_is_err_and, on_ok_weaker}
pub use Rattle.std.proofs.lemmas.Simd.{bit_mask_l, chunk-drop, leading_from_mask_l, length-chunk, mask_l-lt, mask_l-mod, trailing_mask_l}
pub use lib.Count.{count_trailing_zeros}
