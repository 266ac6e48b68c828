-- What the proofs of this crate name of its specs, of other crates and of std.
pub use Rattle.nap_canon.proofs.PublicLaws.{canonical_streams_agree, sink_writes_text, text_is_read}
pub use Rattle.nap_canon.specs.{Converting.IsPrefixOf, Converting.count_of, Laws.IsReadAs, SinkLaws.took_none, Streams.IsAccepted, Streams.list_of, Text.entry_pieces, Text.header, Text.text, Text.text_end_after, Text.text_end_after_header, TextParts.pieces-append, TextParts.pieces_bytes-append, declared.text.Form.TheVariants.Two}
pub use Rattle.nap_canon.specs.Sinking.{Broke, Canonical, StartsText, Took, entry_bytes, entry_bytes_after, sending_of}
unfoldable pub use Rattle.nap_canon.specs.Text.{pieces, pieces_bytes}
pub use Rattle.nap_codes.proofs.PublicLaws.{format_effector_front}
pub use Rattle.nap_codes.specs.{Tables.format_effector, declared.code_set.CharSet.CharSet, declared.control.CursorKind.CursorKind, declared.control.Mask.Mask, declared.control.Size.Size, declared.control.TextStep.TextStep}
pub use Rattle.nap_lines.specs.Lines.{code_text, colour_text, cursor_text, flag_text, grb_text, hand_text, ink_text, line, look_text, mask_size_text, mask_text, move_text, pen_text, point_text, points_text, set_text, size_text, step_text, texture_text}
pub use Rattle.nap_lines.specs.Listing.{lines, lines_join}
pub use Rattle.nap_list.proofs.PublicLaws.{fits_join, text_leaves, walks_join}
pub use Rattle.nap_list.specs.{BatchLaws.text_count, Batches.text_entries, Batches.text_entry_as, Device.WritingTo, Entry.IsCode, Entry.WellMade, Limits.points_limit, Putting.FaultMatchesDevice, Putting.HaltsAfter, Putting.TookBroke, Putting.TookMore, SinkModels.sink_model_of, State.ColourFits, State.Fits, State.after, State.base_after, State.hand_of, State.start, declared.attribute.Area.Area, declared.attribute.CharSize.CharSize, declared.attribute.Colour.Colour, declared.attribute.Hand.Hand, declared.attribute.Ink.Ink, declared.attribute.Origin.Origin, declared.attribute.Pen.TheVariants.After, declared.attribute.Pen.Pen, declared.attribute.Preset.Preset, declared.attribute.TextLook.TextLook, declared.attribute.Texture.Texture, declared.entry.Entry.Entry, declared.sink.Sink.Ghosts, declared.sink.SinkFault.SinkFault, declared.state.Drawing.Drawing, declared.state.OpenDefinition.OpenDefinition, declared.state.State.State}
unfoldable pub use Rattle.nap_list.specs.{Batches.text_entries_in, State.AllFit, State.walk}
pub use Rattle.nap_list.specs.Range.{AllInRange, ColourInRange, HandInRange, InRange, InkInRange, IsAddress, IsByte, PenInRange, SizeInRange, TextInRange, TextureInRange}
pub use Rattle.nap_list.specs.Reading.{IsCutOff, IsReadWhole, NoneFailed, Reading, reading}
pub use Rattle.nap_list.specs.Sending.{Grows, Sends, Writes, grows_more, sending}
pub use Rattle.nap_make.specs.{Cutting.SplitsAtByte, Laws.LineTellsEntry, Laws.LinesAreBounded, Laws.LinesHaveNoEnds, Laws.LinesTellLists, Laws.longest_line, Making.IsMadeOf, Numbers.IsNibble, Numbers.IsNumeralOf, Numbers.IsShort, Numbers.IsSigned, PageLaws.ListsAgain, PageLaws.ListsTellStreams, PageLaws.MadePagesAgree, Runs.FollowsChar, Runs.PutsEntries, Runs.TakesLines, Runs.code_line, Runs.code_lines, Runs.fault_of_sink, Sorts.InSort, Sorts.field_text, Texts.DeniesInput, Texts.DeniesLines, Texts.fault_of_input, Texts.fault_of_text, declared.attribute.TextModes.TextModes, declared.fault.LineFault.LineFault, declared.field.Sort.Sort, declared.field.Value.Value, declared.kind.Kind.Kind, declared.lines.ListFault.ListFault, declared.lines.MakeFault.MakeFault, declared.lines.maker.CharLine.CharLine, declared.lines.maker.LineMaker.LineMaker, declared.lines.reader.LineReader.LineReader, declared.page.PageFault.PageFault}
pub use Rattle.nap_make.specs.Entries.{BeginsLine, BeginsWithSpace, EndsWithSpace, IsColumnAtName, IsEntryLine, IsNameAlone, IsPlace, IsProper, TellsColumn, TellsLine}
pub use Rattle.nap_make.specs.Fields.{IsNumbered, IsPlainStep, MaskInRange, colour_field, look_field, modes_text, pel_field, pen_field, texture_field}
pub use Rattle.nap_make.specs.Kinds.{HasPoints, IsChosen, kind_row, least_points, line_from, line_name, with_word}
pub use Rattle.nap_make.specs.ListMaking.{FeedsFrom, Finishes, HasReadLines, IsReady, IsUnendedLine, MakerHasPut, Makes, MakesList, MakesNoList, PutsLines, SinkTook, StopsLines, StopsLinesBy}
pub use Rattle.nap_make.specs.Lists.{AreLines, BeginsNoLine, ComeFirst, LinesSoFar, MakesNone, OpenedAt, ShowsNone}
pub use Rattle.nap_make.specs.Pages.{ConcludesPage, EachGave, MakesPage, MakesPart, ReadsNoMore, RefusesLines, RefusesLinesBy, page_answer}
pub use Rattle.nap_make.specs.Reading.{AnyValue, BothFit, IsParsed, IsWritten, WritesNone, pair_text}
pub use Rattle.nap_make.specs.Rows.{BeginsNoPoint, EndsPoints, Fields, FitsSort, HasFields, IsFirstWrong, IsWrong, fields_before, fields_line, fields_of, fields_text, points_before}
pub use Rattle.nap_reader.proofs.PublicLaws.{accepted_is_legal, read_values_are_in_range}
pub use Rattle.nap_values.specs.{Colours.Components, Colours.HasSixteenBitParts, Laws.IsWord}
pub use Rattle.nap_values.specs.Coordinates.{Coordinates, Displacement, IsInRange, IsInSquare}
pub use Rattle.std.proofs.Common.{All, Bool, Err, IfErr, IsSome, List, MatchResult, None, Ok, OnOk, Option, Result, Some, [], ap, append-nil, append_assoc, ap₂, arith, codes, cond, drop, eqb-true, false, get_or, inl, inr, is_ok, is_some, length, length-append, map, nat_lt, negsuc, pos, refl, rules, subst, suc, sym, take, take-append-drop, true, zero, ℕ, ℤ, ◌%◌, ◌*◌, ◌++◌, ◌+◌, ◌-◌, ◌/◌, ◌<◌, ◌^◌, ◌||◌, ◌∙◌, ◌∷◌, ◌≡◌, ◌≢◌, ◌≤◌, ◌⊎◌}
pub use Rattle.std.proofs.KnownBytes.{Appends-kept, Consumes-kept, Consumes-nil, Consumes-trans}
pub use Rattle.std.proofs.{Math.Bool.or-false, Math.Bool.or-true, Math.Nat.pow-le-pow_right, Math.Seq.drop-append_seam, Math.Seq.drop-cons, Math.Seq.take-append_seam, lemmas.Bool.Decides.Decides-eqb, lemmas.Bool.Decides.nat_tests, lemmas.Grind.common_steps, lemmas.Int.ints, lemmas.Int.to_z-of_z, lemmas.Result.err_from_is_err_and, lemmas.Slice.Eq.strip_prefix_is, lemmas.Str.digit_value-digit_char, lemmas.Str.digit_value_digit}
pub use Rattle.std.proofs.lemmas.Bool.{eqb-false, false_from_ne_true, false≢true, ltb-true}
pub use Rattle.std.proofs.lemmas.Fmt.{decimal-digits_value, decimal_digit, decimal_injective, decimal_is_IsNumeral, decimal_nonempty, first_decimal, length-decimal-le, length_signed_le, signed_decimal_injective}
pub use Rattle.std.proofs.lemmas.Int.Digits.{digits_more, digits_value-lt, digits_value_more}
pub use Rattle.std.proofs.lemmas.List.Elements.{All-append, All-cons, All-drop, All-head, All-map, All-nil, All-push, All-tail, All-take, All-weaker}
pub use Rattle.std.proofs.lemmas.List.{append_cancel_left, flat_map_more, length-take-le, nil_from_length, take_all, take_more}
pub use Rattle.std.proofs.lemmas.Str.Parse.{digit_from_value, numerals_by_value, tells_digits}
pub use Rattle.std.specs.{Char.digit_char, Char.digit_value, Fmt.decimal, Fmt.signed_decimal, Int.Signed.mag, Prelude.IfSome, Prelude.MatchOption, Prelude.◌↔◌, Str.Parse.AllDigits, Str.Parse.digits_value, Str.bytes_eq}
pub use Rattle.std.specs.Io.KnownBytes.{Appends, Consumes, Keeps}
pub use mir.Syntax.{w32}
