-- What this crate names of other crates and of std.
pub use Rattle.nap_codes.specs.{CodeSets.set_at, CodeSets.start_sets, Front.Front, Front.complete, Front.is_graphic, Front.refused, Front.unfinished, Lexer.LexerState, Lexer.Steps, Lexer.StepsBy, Tables.format_effector, declared.code.Code.Code, declared.code.CodeFault.CodeFault, declared.code.Step.Step, declared.code_set.CharSet.CharSet, declared.code_set.CodeSet.CodeSet, declared.code_set.CodeSets.CodeSets, declared.code_set.GSet.GSet, declared.control.CursorKind.CursorKind, declared.control.Mask.Mask, declared.control.Row.Row, declared.control.Size.Size, declared.control.TextStep.TextStep, declared.opcode.Opcode.Opcode}
pub use Rattle.nap_codes.specs.Laws.{FormatEffector, IsGraphic, backward, down, forward, home, return, up}
pub use Rattle.nap_codes.specs.LexResults.{LexResult, StepsThrough, at_code, at_end, at_fault, at_more, lex_result, lex_result_by}
pub use Rattle.nap_codes.specs.Spelling.{Spells, in_gl, shift_in, shift_out, single_shift3}
pub use Rattle.nap_draw.specs.Codes.{char_on, code_rule, definition_ended, definition_ended_by, definition_opened, one_entry_result, with_last}
pub use Rattle.nap_draw.specs.{Draws.Cause, Draws.device, Draws.memory, Draws.stream, Geometry.arc_points, Geometry.poly_points, Geometry.rect_chain_spans, Joining.AreWholeOperands, Joining.CanJoin, Limits.run_limit, Operands.addresses, Operands.moves, Operands.operands, declared.fault.DrawFault.DrawFault, declared.work.Work.Work}
pub use Rattle.nap_draw.specs.Rule.{RuleResult, and_then, arc_on, area_of, at_least_one, at_most_limit, blink, blinks, colour_of_base, complete_pairs, domain_rule, entries_result, entry_result, field_on, first_and_more, from_pen, map_rule, moves_of, pen_point, pen_result, poly_on, rect_on, rule, rule_result, set_color_rule, set_color_under, shape_from_pen, shape_from_point, span_line_entry, start_domain, start_work, with_domain, with_drawing, with_operands, with_pairs}
pub use Rattle.nap_list.specs.{Agreement.AreCurrent, Agreement.ModeZeroIsBase, Device.WritingTo, Flushing.FlushedOnce, Flushing.flush_count, Known.colour_code, Known.is_known, Limits.points_limit, Limits.reads_limit, Limits.steps_limit, Shapes.circle_closed, Shapes.entry_of_shape, Shapes.outline, Shapes.shape_on, declared.attribute.Area.Area, declared.attribute.Attributes.Attributes, declared.attribute.Base.Base, declared.attribute.CharSize.CharSize, declared.attribute.Colour.Colour, declared.attribute.Hand.Hand, declared.attribute.Ink.Ink, declared.attribute.Origin.Origin, declared.attribute.Pen.Pen, declared.attribute.Preset.Preset, declared.attribute.TextLook.TextLook, declared.attribute.Texture.Texture, declared.batch.Batch.Batch, declared.entry.Entry.Entry, declared.shape.Shape.Shape, declared.shape.ShapeKind.ShapeKind, declared.sink.Sink.Ghosts, declared.sink.SinkFault.SinkFault, declared.state.Drawing.Drawing, declared.state.LastChar.LastChar, declared.state.OpenDefinition.OpenDefinition, declared.state.State.State}
pub use Rattle.nap_list.specs.BatchLaws.{lines_count, lines_prefix, lines_rest, points_prefix, points_rest, sized_lines, sized_text, text_count, text_prefix}
pub use Rattle.nap_list.specs.Batches.{EachIsCurrent, FirstIsCurrent, batch_entries, last_point, line_entry, point_entry, text_entry, text_entry_as}
pub use Rattle.nap_list.specs.Entry.{IsCode, StepMade, attributes, colour_only, hand_attributes, ink_attributes, pen_only, point_attributes}
pub use Rattle.nap_list.specs.Putting.{HaltsAfter, Put, PutSome, Putting, SinkModel, TakesAll, WantsMore, sink_model}
pub use Rattle.nap_list.specs.PuttingLaws.{put_begins, put_ends, put_goes, put_halts, some_put}
pub use Rattle.nap_list.specs.Range.{AllInRange, AreaInRange, ColourInRange, HandInRange, InRange, InkInRange, IsAddress, IsByte, PenInRange, SizeInRange, StepInRange, TextInRange, TextureInRange}
pub use Rattle.nap_list.specs.Reading.{IsCutOff, IsReadWhole, NoneFailed, Reading, reading}
pub use Rattle.nap_list.specs.Sending.{FailsAfter, Grows, Sending, Sends, SendsAll, SendsSome, Writes, grows_more, grows_none, rest_of, sending, write_fails}
pub use Rattle.nap_list.specs.State.{AllFit, AttributesFit, ColourFits, Fits, IsIllegalAt, Legal, MaskFits, PenFits, TextureFits, after, base_after, definition_after, effect_on_drawing, hand_of, ink_of, known_after, last_after, restored_drawing, start, start_drawing, start_text, start_texture, with_attributes, with_colour, with_pen, with_pen_at}
unfoldable pub use Rattle.nap_list.specs.State.{walk}
pub use Rattle.nap_reader.specs.{Bodies.Mode, Bodies.between, Bodies.body_of, Bodies.in_body, Bodies.no_names, Collecting.IsCount, Collecting.IsCounted, Collecting.IsRead, Course.outcome_by_front, Course.paused, Course.prepend, Feeding.Feeds, Feeding.LastRead, Laws.BreaksAmong, Laws.IsAlone, Laws.IsRun, Laws.WantsSome, declared.fault.Fault.Fault, declared.fault.Refusal.Refusal, declared.feeding.FeedFault.FeedFault, declared.reader.Reader.Reader}
pub use Rattle.nap_reader.specs.Breaking.{BreaksInRun, BreaksWithin, LacksWithin, TookPrefix, cause_of}
pub use Rattle.nap_reader.specs.ReaderAnswers.{Answers, AnswersBy, HasRead, IsKnown, IsTaken, budget_of, left_of, refusal_of, sink_of}
pub use Rattle.nap_reader.specs.Stream.{Machine, Outcome, Placed, StreamFront, Unfinished, after_charge, after_drawing, begun, bytes_of, carried_words, closed_front, drawn_front, ended, ended_by, front_by, front_in, is_operand, is_operand_byte, means, nothing, open_run, opened_front, outcome_from, place_at, placed_from, refusal, run_front, run_length, shown_front, start_machine, steps_left, stream_front, with_definition, with_drawn, with_end, with_run, with_run_by}
pub use Rattle.nap_values.specs.{Colours.Components, Colours.HasSixteenBitParts, Domains.OperandLengths, Laws.IsOperandByte, Laws.IsWord, Operands.colour_of, Operands.multi_of, Operands.single_of}
pub use Rattle.nap_values.specs.Coordinates.{Coordinates, Displacement, IsInRange, IsInSquare, displacement_to, point_at}
pub use Rattle.nap_values.specs.Spellings.{addr_bytes, grb_bytes, move_bytes, point_bytes, words_of}
pub use Rattle.std.specs.Io.KnownBytes.{Appends, Consumes, Keeps}
pub use Rattle.std.specs.{Option.option_and_then, Option.option_map, Slice.Iter.chunks_rest, Slice.Iter.chunks_size, declared.alloc.Global.Global}
pub use Rattle.std.specs.Prelude.{IsSome, if◌then◌else◌, nat_le, pos, replicate, slice_get, slice_index, unwrap_or, ⊤, ◌&&◌, ◌==◌}
