-- What the proofs of this crate name of its specs, of other crates and of std.
pub use Rattle.nap_canon.specs.Acting.{Acting, ActsUnderEightAndFour, acting, acting_after, acting_at, acting_in, opcodes_of}
unfoldable pub use Rattle.nap_canon.specs.{Acting.acting_within, Batches.points_bytes, Plain.AllMayFollow, Plain.DomainFirst, Plain.DomainNext, Spelling.displacement_bytes, Text.pieces, Text.pieces_bytes, Text.text_end_after}
pub use Rattle.nap_canon.specs.Batches.{CutAfter, Joins, JoinsAfter, Parted, PointsJoin, PutsAfter, PutsSome, SentUpTo, SentWhole, TextJoins, batch_attributes, bytes_of_rest, canon_sink_model, entry_size, joined_bytes, opening, run_opening, text_end_after_joined, text_end_after_rest}
pub use Rattle.nap_canon.specs.{Buffers.with_bytes_at, Concluding.Concludes, Concluding.EndsOutput, Concluding.answer_of, PageTexts.IsPageText, PageTexts.RefusesPage, PageTexts.refusal_of_text, Range.AttributesInRange, Streams.IsCanonicalOf, Streams.list_of, TextAnswers.IsTextAnswer, TextParts.pieces-append, TextParts.pieces_bytes-append, TextParts.text_end_after-append, declared.pending.prelude.Flag.Flag, declared.conversion.ConvertFault.ConvertFault, declared.text.CanonFault.CanonFault, declared.text.Form.Form, declared.byte_sink.Output.Output, declared.pending.Pending.Pending, declared.plain.CodesSeen.CodesSeen, declared.plain.Expected.Expected, declared.plain.PlainCheck.PlainCheck, declared.text_end.TextEnd.TextEnd, declared.writer.Writer.Writer, declared.text.Form.TheVariants.One, declared.text.Form.TheVariants.Two}
pub use Rattle.nap_canon.specs.Checking.{check_after, check_of_parts, expected_after, expected_after_any, is_plain_code, lengths_word, may_end, may_end_at, reset_word, seen_after}
pub use Rattle.nap_canon.specs.Commands.{Command, drawing_with_set_color, effect, effects, look_with_flag}
pub use Rattle.nap_canon.specs.Converting.{Converts, IsPrefixOf, RefusesBy, StopsAtOnce, count_of}
pub use Rattle.nap_canon.specs.Equality.{same_base, same_colour, same_flag, same_move, same_pen, same_size, same_texture}
pub use Rattle.nap_canon.specs.Laws.{CanonicalStreamsAgree, FormsAgree, IsReadAs, PlainOperandLengths, PreludeLeads, TextIsPlain, TextIsRead, TextLeads, TextOfPrefix, text_lengths}
pub use Rattle.nap_canon.specs.Plain.{ArePlain, IsAbsolute, IsNoOpcode, IsPlain, IsPlainCode, LengthsNext, MayFollowCode, ResetNext}
pub use Rattle.nap_canon.specs.Preludes.{base_commands, flag_commands, given_size_commands, mask_commands, named_size_commands, unless, words_commands}
unfoldable pub use Rattle.nap_canon.specs.Preludes.{colour_prelude, pel_prelude, pen_prelude, prelude, text_prelude, texture_prelude}
pub use Rattle.nap_canon.specs.SinkLaws.{sends_cut, sends_more, sends_none, took_broke, took_more, took_none}
pub use Rattle.nap_canon.specs.Sinking.{Broke, Canonical, StartsText, StartsTextIn, Took, WritesText, entry_bytes, entry_bytes_after, sending_of}
pub use Rattle.nap_canon.specs.Spelling.{Piece, char_piece, command_piece, control, cursor_byte, domain, domain_again, escape, flag_byte, group, joinable_piece, line_piece, map_pieces, mask_byte, opcode, primary, shape, shape_bytes, size_byte, spelling_pieces, step_bytes, text_byte_piece, text_byte_piece_as, word_byte}
pub use Rattle.nap_canon.specs.Text.{entry_pieces, gl_of, header, joins_open_run, piece_bytes, run_after, shift_to_opcodes, shift_to_primary, text, text1, text_end_after_header, text_end_after_piece, text_in}
pub use Rattle.nap_canon.specs.Writing.{AppendsCommands, AppendsNext, AppendsPiece, AppendsPieces, Puts, PutsPrefix, RestIsCurrent, SendsPartly, SendsWholly, SpellsNext, WritesPendingAnd, WritesPieces, WritesWhole}
pub use Rattle.nap_canon.specs.declared.text.CanonFault.TheVariants.{Illegal, Memory}
pub use Rattle.nap_canon.specs.declared.text_end.TextEnd.TheVariants.{InRun, NoRun}
pub use Rattle.nap_codes.specs.{declared.code_set.CharSet.TheVariants.Primary, declared.control.Row.TheVariants.Whole}
pub use Rattle.nap_codes.specs.declared.code_set.GSet.TheVariants.{G0, G1}
pub use Rattle.nap_list.specs.declared.attribute.Pen.TheVariants.{After, At}
pub use Rattle.nap_list.specs.declared.sink.SinkFault.TheVariants.{Write}
pub use Rattle.nap_codes.proofs.PublicLaws.{code_is_spelled, code_length, format_effector_known, front-nothing, lex_result-code, lex_result-fault, lex_result-front, on_code, on_fault, on_more, one_byte_opcode, opcode_in_gl, with_code}
unfoldable pub use Rattle.nap_codes.specs.{CodeSets.after_control0, CodeSets.with_set, LexResults.lex_result}
pub use Rattle.nap_canon.specs.Names.{AllInRange, AnswersBy, Appends, AreCurrent, AreWholeOperands, Area, Attributes, AttributesFit, Base, Batch, BreaksAmong, BreaksInRun, CanJoin, Cause, CharSet, CharSize, Code, CodeFault, CodeSet, CodeSets, Colour, ColourFits, ColourInRange, Components, Consumes, Coordinates, CursorKind, Displacement, DrawFault, Drawing, Entry, FailsAfter, Fault, FeedFault, Feeds, FirstIsCurrent, Fits, FlushedOnce, FormatEffector, Front, GSet, Ghosts, Grows, Hand, HasRead, HasSixteenBitParts, InRange, Ink, IsAddress, IsAlone, IsCode, IsCounted, IsCutOff, IsGraphic, IsIllegalAt, IsInRange, IsInSquare, IsKnown, IsOperandByte, IsRead, IsReadWhole, IsRun, IsSome, IsTaken, IsWord, Keeps, LacksWithin, LastChar, LastRead, Legal, LexResult, LexerState, Machine, Mask, MaskFits, Mode, ModeZeroIsBase, NoneFailed, Opcode, OpenDefinition, OperandLengths, Origin, Outcome, Pen, PenFits, PenInRange, Placed, Preset, Put, PutSome, Putting, Reader, Reading, Refusal, RuleResult, Sending, Sends, SendsAll, SendsSome, Shape, ShapeKind, Size, SizeInRange, Spells, State, Step, StepMade, Steps, StreamFront, TakesAll, TextInRange, TextLook, TextStep, Texture, TextureFits, TextureInRange, TookPrefix, Unfinished, WantsMore, WantsSome, Work, Writes, addresses, after, after_charge, after_drawing, and_then, arc_on, arc_points, attributes, backward, base_after, batch_entries, begun, between, body_of, budget_of, bytes_of, carried_words, cause_of, char_on, chunks_rest, chunks_size, circle_closed, closed_front, code_rule, colour_code, colour_of, colour_of_base, colour_only, complete, definition_after, definition_ended, definition_ended_by, definition_opened, device, domain_rule, down, drawn_front, effect_on_drawing, ended, ended_by, entries_result, entry_of_shape, entry_result, flush_count, format_effector, forward, front_by, front_in, grows_more, hand_attributes, hand_of, home, if◌then◌else◌, in_gl, ink_attributes, ink_of, is_known, is_operand, is_operand_byte, left_of, lex_result_by, line_entry, lines_count, lines_prefix, lines_rest, means, memory, moves, multi_of, no_names, nothing, open_run, opened_front, operands, outcome_by_front, outcome_from, outline, paused, pen_only, pen_result, place_at, point_at, point_attributes, point_entry, points_limit, points_prefix, points_rest, poly_on, poly_points, pos, prepend, put_begins, put_ends, put_goes, put_halts, reading, refusal, refusal_of, refused, replicate, rest_of, restored_drawing, return, rule, rule_result, run_front, run_length, run_limit, sending, set_at, set_color_under, shape_from_point, shape_on, shift_in, shift_out, shown_front, single_of, single_shift3, sink_of, sized_lines, sized_text, slice_get, slice_index, some_put, start, start_domain, start_drawing, start_machine, start_sets, start_text, start_texture, start_work, steps_left, steps_limit, stream, text_count, text_entry, text_prefix, unfinished, unwrap_or, up, with_attributes, with_colour, with_domain, with_drawn, with_last, with_pen_at, with_run, with_run_by, words_of, write_fails, ⊤, ◌&&◌, ◌==◌}
unfoldable pub use Rattle.nap_codes.specs.Front.{argument_front, argument_of, control0_front, control1_front, designated_front, designation_front, escape_front, final_front, front, gl_front, last_byte, more_front, non_pdi_code, one_byte_later, opcode_front, pdi_front, sequence_front, shifted_front, single_shift_front, with_argument}
unfoldable pub use Rattle.nap_codes.specs.Tables.{control0_rows, control1_rows, designation, left_out_opcode, mask_rows, number_rows, opcode_rows, row_of, set_rows}
pub use Rattle.nap_draw.proofs.PublicLaws.{no_operands, runs_join, whole_operand_first}
unfoldable pub use Rattle.nap_draw.specs.Codes.{repeated_chars}
unfoldable pub use Rattle.nap_draw.specs.Geometry.{absolute_spans, last_or, points_at, points_reached, polyline_spans, relative_spans}
pub use Rattle.nap_list.proofs.PublicLaws.{batch_is_current, fits_join, walks_join}
unfoldable pub use Rattle.nap_list.specs.{Batches.EachIsCurrent, Batches.last_point, Batches.polyline_entries, Batches.text_entries_in, State.AllFit, State.walk}
pub use Rattle.nap_reader.proofs.PublicLaws.{accepted_is_legal, begun_comes_first, code_acts, end_breaks_among, fed_breaks_among, front_after_front, more_bytes_keep_entries, read_values_are_in_range, run_acts, run_waits}
unfoldable pub use Rattle.nap_reader.specs.{Bodies.body_front, Stream.placed_from, Stream.stream_front}
pub use Rattle.nap_values.proofs.PublicLaws.{addresses_spell_once, colours_spell_once, displacements_lead_there, moves_spell_once, points_spell_once}
unfoldable pub use Rattle.nap_values.specs.{Coordinates.displacement_to, Digits.digits_of}
unfoldable pub use Rattle.nap_values.specs.Spellings.{addr_bytes, grb_bytes, move_bytes, point_bytes, words_of_pairs, words_of_triples}
pub use Rattle.std.proofs.Common.{All, Bool, Err, Global, IfSome, IsErrOf, List, None, Ok, OnErr, OnOk, Option, Result, Some, Vec, [], ap, append-nil, append_assoc, arith, cond, drop, false, get_or, inl, inr, is_err, length, length-append, length-drop, map, nat_lt, refl, rules, subst, suc, sym, take, take-add, take-append-drop, true, zero, ℕ, ◌%◌, ◌*◌, ◌++◌, ◌+◌, ◌-◌, ◌/◌, ◌<◌, ◌||◌, ◌↔◌, ◌∙◌, ◌∷◌, ◌≡◌, ◌≢◌, ◌≤◌, ◌⊎◌}
pub use Rattle.std.proofs.{KnownBytes.Appends-kept, KnownBytes.Consumes-nil, Math.Bool.or-true, Math.ListN.drop_of_length-le, lemmas.Bool.Decides.Decides-int_eq, lemmas.Bool.Decides.nat_tests, lemmas.Bool.eqb-false, lemmas.Bool.false≢true, lemmas.Bool.true≢false, lemmas.Result.err_from_is_err_and}
pub use Rattle.std.proofs.Math.Seq.{drop-cons, take-append-add}
pub use Rattle.std.proofs.lemmas.List.Elements.{All-append, All-cons, All-head, All-more, All-nil, All-tail}
pub use Rattle.std.proofs.lemmas.List.{drop-drop, drop_at, length-map, length-take-le, map-append, nil_from_length, take-append-le, take-take, take_all, take_at, take_more}
