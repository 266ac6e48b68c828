-- What the proofs of this crate name of its specs, of other crates and of std.
pub use Rattle.nap_codes.proofs.PublicLaws.{format_effector_front}
pub use Rattle.nap_codes.specs.{Tables.format_effector, declared.code_set.CharSet.CharSet, declared.control.TextStep.TextStep}
pub use Rattle.nap_lines.specs.Batches.{char_front, hand_text_without_pen, line_front, pen_at, point_end, point_front, text_byte_front, text_byte_front_as}
pub use Rattle.nap_lines.specs.{Blocks.patched, Parts.closing_points, Parts.shape_name, Writing.AppendsText, Writing.NeedsLines, Writing.line_limit}
unfoldable pub use Rattle.nap_lines.specs.Blocks.{filled, recoded}
pub use Rattle.nap_lines.specs.Lines.{code_text, fill_text, hand_text, ink_text, line, pen_text, point_text, points_text, set_text}
pub use Rattle.nap_lines.specs.Listing.{LineSinkState, TakesLinesOf, lines, lines_join, lists_none}
pub use Rattle.nap_lines.specs.Printing.{BrokeLines, Closes, Printing, PrintsLines, PrintsUpTo, SendsBuffered, SendsPart, TookLines, line_memory, sending_by, taken_count}
pub use Rattle.nap_lines.specs.PrintingLaws.{passes_more, passes_none, passes_on, took_none}
pub use Rattle.nap_list.specs.BatchLaws.{lines_prefix, lines_rest, points_prefix, points_rest, sized_lines, sized_points, sized_text, text_prefix}
pub use Rattle.nap_list.specs.Batches.{batch_entries, last_point, point_entry, text_entry, text_entry_as}
unfoldable pub use Rattle.nap_list.specs.{Batches.polyline_entries, Batches.text_entries_in, State.walk}
pub use Rattle.nap_list.specs.{Entry.WellMade, PuttingLaws.some_taken, PuttingLaws.stops_after, PuttingLaws.wanting_put, Shapes.entry_of_shape, Shapes.outline, Shapes.shape_entry, State.after, State.hand_of, State.ink_of, declared.attribute.Hand.Hand, declared.attribute.Ink.Ink, declared.attribute.Pen.Pen, declared.batch.Batch.Batch, declared.device.DeviceFault.DeviceFault, declared.entry.Entry.Entry, declared.shape.Shape.Shape, declared.shape.ShapeKind.ShapeKind, declared.sink.BatchFault.BatchFault, declared.sink.SinkFault.SinkFault, declared.state.Drawing.Drawing, declared.state.State.State}
pub use Rattle.nap_list.specs.Putting.{BreaksAfter, FaultMatchesDevice, HaltsAfter, Put, PutSome, SinkModel, TakesAll, sink_model}
pub use Rattle.nap_list.specs.Sending.{FailsAfter, Sending, SendsAll, SendsBytes, sending}
pub use Rattle.nap_values.specs.Coordinates.{Coordinates}
pub use Rattle.std.proofs.Common.{Bool, Err, List, Ok, Option, Result, [], add-one, ap, append-nil, append_assoc, arith, codes, decimal, drop, drop-cons, false, flat_map, get_or, inr, length, length-append, length-drop, length-take, map, refl, rules, set, subst, suc, sym, take, take-add, take-suc, true, zero, ℕ, ◌*◌, ◌++◌, ◌+◌, ◌-◌, ◌<◌, ◌^◌, ◌∙◌, ◌∷◌, ◌≡◌, ◌≢◌, ◌≤◌}
pub use Rattle.std.proofs.{Math.Nat.mul-le-mul_left, Math.Nat.suc-mul, Math.Seq.drop-append-add, Math.Seq.drop-append_seam, Math.Seq.take-append_seam, lemmas.Bool.Decides.nat_tests, lemmas.Fmt.IsAscii-decimal, lemmas.Fmt.length-decimal-le, lemmas.Grind.common_steps, lemmas.List.Concat.flat_map-append, lemmas.List.Edits.sets-eq, lemmas.Str.Ascii.IsAscii-cons, lemmas.Str.Ascii.IsAscii-nil}
pub use Rattle.std.proofs.lemmas.List.{drop-append-le, drop-drop, drop-take, drop_all, length-take-le, take-append-drop, take-take, take_all, take_more}
pub use Rattle.std.proofs.lemmas.List.Elements.{All-append, All-cons, All-head, All-nil, All-tail}
pub use Rattle.std.proofs.lemmas.Str.{IsAscii-append, IsUtf8-append, IsUtf8-from_ascii, IsUtf8-nil}
pub use Rattle.std.specs.{Array.IsWholeChunk, Result.IsErr, Result.IsErrAnd, Str.IsUtf8, declared.vec.Vec.Vec}
pub use Rattle.std.specs.Prelude.{All, MatchOption, slice_index, vec_capacity, vec_len}
