-- What the proofs of this crate name of its specs, of other crates and of std.
pub use Rattle.nap_canon.proofs.PublicLaws.{look_is_current}
pub use Rattle.nap_canon.specs.{Converting.count_of, PageTexts.RefusesPage, PageTexts.refusal_of_text, Sinking.Canonical, Sinking.StartsText, Sinking.Took, declared.text.Form.TheVariants.Two, declared.text_end.TextEnd.TextEnd}
pub use Rattle.nap_canon.specs.Names.{BreaksWithin, CodeSets, Colour, DrawFault, Entry, Fault, Ghosts, Machine, NoneFailed, Opcode, Pen, Reading, Refusal, State, Work, after, attributes, begun, cause_of, ended_by, flush_count, means, reading, reads_limit, refusal, start, start_machine, stream, with_attributes}
unfoldable pub use Rattle.nap_canon.specs.{Names.walk, Spelling.displacement_bytes, Text.pieces, Text.pieces_bytes}
unfoldable pub use Rattle.nap_canon.specs.Preludes.{colour_prelude, pel_prelude, pen_prelude, prelude, texture_prelude}
pub use Rattle.nap_canon.specs.Spelling.{command_piece, spelling_pieces}
pub use Rattle.nap_canon.specs.Text.{entry_pieces, text, text_end_after_header}
unfoldable pub use Rattle.nap_codes.specs.{Front.non_pdi_code, Tables.control0_rows, Tables.control1_rows, Tables.row_of}
pub use Rattle.nap_command.specs.Answers.{AnswersPage, IsAnswer, IsPlaced, came_with, entries_added, line_at, lines_at, places, refused_body_of}
unfoldable pub use Rattle.nap_command.specs.{Answers.places_before, Laws.lines_placed}
pub use Rattle.nap_command.specs.{Buffering.Buffered, Buffering.KeepsWithin, Buffering.TakesMemory, Buffering.memory_for, Devices.Pipes, Devices.TakesText, Devices.pipes, Devices.reading_between, Limits.page_limit, Limits.requests_limit, Making.FailsToMake, Making.failure_of, Placing.AreNew, Placing.lines_on, Placing.step_of, declared.answer.Printout.Printout, declared.batch.answer.TheConstants.HEAD_SPACE, declared.batch.places.PlacesText.PlacesText}
pub use Rattle.nap_command.specs.Commands.{Fails, Finds, IsStreamRefusal, PrintsBy, count_line}
pub use Rattle.nap_command.specs.Laws.{AnswersAreThoseOfCommands, AsCheck, AsCommand, BegunRequestsAreNone, EntriesAreBounded, NeverFalls, PartsAt, PlacesAreExact, RequestsAreCutOneWay, TextIsBounded}
pub use Rattle.nap_command.specs.Requests.{IsWhole}
pub use Rattle.nap_command.specs.Sessions.{no_memory}
pub use Rattle.nap_command.specs.Types.{Action, Ahead, Ended, Failure, FoundRequest, Question, ReadStep, RequestLine, Stop, Verdict, list_of, read_limit}
pub use Rattle.nap_command.specs.Waiting.{IsAsked, ReadingEnds}
unfoldable pub use Rattle.nap_draw.specs.{Codes.repeated_chars, Operands.cut_operands, Operands.operands}
pub use Rattle.nap_draw.specs.Rule.{RuleResult, rule, rule_result}
pub use Rattle.nap_lines.specs.{Lines.line, Listing.LineSinkState, Listing.TakesLinesOf, Listing.lines, Listing.lines_join, PrintingLaws.passes_more}
pub use Rattle.nap_list.specs.{Counting.CountsEntries, Counting.Uncounted, declared.device.TheConstants.READ_SIZE}
pub use Rattle.nap_list.specs.Sending.{Grows, SendsBytes, grows_none, sending, stopped_grows}
pub use Rattle.nap_make.specs.{Cutting.SplitsAtByte, Texts.DeniesInput, declared.lines.ListFault.ListFault}
pub use Rattle.nap_reader.specs.{Budgets.most_budget, Kinds.kind_of, Looking.AddsAhead, Looking.bytes_ahead, Twice.IsReadTwice, Twice.ReadsTwice, declared.twice.TwiceFault.TwiceFault}
pub use Rattle.nap_reader.specs.ReaderAnswers.{HasRead, StopsAt, StopsBy, budget_of, fed_of, left_of, refusal_of, sink_of}
pub use Rattle.nap_reader.specs.Shared.{NeverWants}
unfoldable pub use Rattle.nap_reader.specs.Shared.{placed_from, stream_front}
pub use Rattle.std.proofs.Common.{All, Bool, Err, List, None, Ok, Option, Result, Some, [], ap, append-nil, append_assoc, arith, drop, false, get_or, if◌then◌else◌, inl, inr, is_err, length, length-append, length-drop, map, max, min, nat_lt, option_and_then, option_map, refl, replicate, rules, subst, suc, sym, take, take-add, true, vec_capacity, zero, ℕ, ◌%◌, ◌&&◌, ◌*◌, ◌++◌, ◌+◌, ◌-◌, ◌/◌, ◌<◌, ◌==◌, ◌^◌, ◌||◌, ◌∙◌, ◌∷◌, ◌≡◌, ◌≢◌, ◌≤◌, ◌⊎◌}
pub use Rattle.std.proofs.KnownBytes.{Appends-kept, Appends-nil, Appends-trans, Consumes-nil, Consumes-trans}
pub use Rattle.std.proofs.{Math.Bool.or-false, Math.Bool.or-true, lemmas.Bool.Decides.nat_tests, lemmas.Fmt.length-decimal-le, lemmas.Result.IfOk-weaker, lemmas.Result.err_from_is_err_and, lemmas.Str.Parse.digit_from_value}
pub use Rattle.std.proofs.Math.Seq.{get_or-append_seam, take-append-add, take-append_seam, take-nil}
pub use Rattle.std.proofs.lemmas.Bool.{and_parts, cases_lt, eq-eqb, eqb-true, false≢true, ltb-false}
pub use Rattle.std.proofs.lemmas.List.Elements.{All-append, All-cons, All-nil, All-push}
pub use Rattle.std.proofs.lemmas.List.{drop_at, flat_map_more, length-map, length-take-le, nil_from_length, take-append-drop, take-append-le, take_all, take_at}
pub use Rattle.std.specs.Io.KnownBytes.{Appends, Consumes, IsAtEnd, Keeps}
pub use Rattle.std.specs.Prelude.{IfOk, IfSome, IsSome, MatchResult, decimal, flat_map}
pub use Rattle.std.specs.{Str.Parse.AllDigits, declared.alloc.AllocError.AllocError}
