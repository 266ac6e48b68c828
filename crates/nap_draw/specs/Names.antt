-- What this crate names of other crates and of std.
pub use Rattle.nap_codes.specs.{Tables.format_effector, Tables.left_out_opcode, declared.code.Code.Code, declared.code_set.CharSet.CharSet, declared.control.TextStep.TextStep, declared.opcode.Opcode.Opcode}
pub use Rattle.nap_list.specs.Agreement.{Agrees, ColourAgrees, EqualCurrent, ModeZeroIsBase, StatesAgree}
pub use Rattle.nap_list.specs.Batches.{IsTextByte, last_char_of_text, point_entry, text_entry, text_entry_as}
pub use Rattle.nap_list.specs.Entry.{IsCode, StepMade, WellMade, attributes, colour_only, hand_attributes, ink_attributes, no_attributes, pen_only}
pub use Rattle.nap_list.specs.{Known.colour_code, Known.is_known, Known.known_after_reset, Known.with_known_colour, Known.without_address, Limits.points_limit, Limits.steps_limit, Shapes.circle_closed, Shapes.outline, Shapes.shape_end, Shapes.shape_on, SinkModels.sink_model_of, declared.attribute.Area.Area, declared.attribute.Attributes.Attributes, declared.attribute.Base.Base, declared.attribute.CharSize.CharSize, declared.attribute.Colour.Colour, declared.attribute.Hand.Hand, declared.attribute.Ink.Ink, declared.attribute.Pen.Pen, declared.attribute.TextLook.TextLook, declared.attribute.Texture.Texture, declared.entry.Entry.Entry, declared.known.MapColour.MapColour, declared.shape.ShapeKind.ShapeKind, declared.sink.Sink.Ghosts, declared.sink.SinkFault.SinkFault, declared.state.Definition.Definition, declared.state.Drawing.Drawing, declared.state.LastChar.LastChar, declared.state.OpenDefinition.OpenDefinition, declared.state.State.State}
pub use Rattle.nap_list.specs.Putting.{BreaksAmid, Put, StopsAmid, TakesAll, WantsMore}
pub use Rattle.nap_list.specs.PuttingLaws.{one_fits, one_goes, one_put, one_stops, put_begins, put_ends, rest_put, some_breaks, some_put, some_stops, some_wants}
pub use Rattle.nap_list.specs.Range.{AllInRange, AreaInRange, BaseInRange, ColourInRange, DrawingInRange, HandInRange, InRange, InkInRange, IsAddress, IsByte, MapColourInRange, OpenedInRange, PenInRange, SizeInRange, StateInRange, StepInRange, TextInRange, TextureInRange}
pub use Rattle.nap_list.specs.State.{AllFit, Fits, MaskFits, MayCome, TextureFits, after, base_after, corner, definition_after, effect_on_drawing, hand_of, ink_of, known_after, last_after, reset, restored_drawing, start, start_drawing, start_text, start_texture, walk, with_attributes, with_colour, with_pen, with_pen_at}
pub use Rattle.nap_values.specs.{Coarse.Course, Colours.Components, Colours.HasSixteenBitParts, Domains.OperandLengths, Laws.IsWord, Operands.colour_of, Operands.multi_of, Operands.operand_words, Operands.single_of}
pub use Rattle.nap_values.specs.Coordinates.{Coordinates, Displacement, IsInRange, IsInSquare, displaced_point, point_at}
pub use Rattle.std.specs.{Int.div_ceil, Option.option_or, Prelude.vec_capacity, Prelude.vec_len, Result.is_err, Result.is_ok, declared.vec.Vec.Vec}
pub use Rattle.std.specs.Slice.Iter.{chunks_exact_rest, chunks_exact_size, chunks_rest, chunks_size}
