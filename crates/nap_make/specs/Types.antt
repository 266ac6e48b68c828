-- What the definitions of this crate name of other crates and of std.
pub use Rattle.nap_canon.specs.{Concluding.EndsOutput, Text.text}
pub use Rattle.nap_codes.specs.declared.control.TextStep.{TextStep}
pub use Rattle.nap_lines.specs.Lines.{code_text, colour_text, cursor_text, flag_text, grb_text, line, look_text, mask_size_text, mask_text, move_text, pen_text, point_text, set_text, size_text, step_text, texture_text}
pub use Rattle.nap_lines.specs.Listing.{lines}
pub use Rattle.nap_list.specs.{Batches.text_entries, Entry.IsCode, Entry.WellMade, Flushing.FlushedOnce, Limits.reads_limit, State.AllFit, State.Fits, State.Legal, State.after, State.start, State.walk, declared.attribute.Hand.Hand, declared.entry.Entry.Entry, declared.sink.Sink.Ghosts}
pub use Rattle.nap_list.specs.Range.{AllInRange, ColourInRange, InRange, IsAddress, PenInRange, SizeInRange, TextInRange, TextureInRange}
pub use Rattle.nap_list.specs.Reading.{IsCutOff, IsReadWhole, NoneFailed, Reading, reading}
pub use Rattle.nap_make.specs.{declared.field.Sort.Sort, declared.field.Value.Value, declared.kind.Kind.Kind, declared.lines.ListFault.ListFault, declared.lines.MakeFault.MakeFault, declared.lines.maker.LineMaker.LineMaker}
pub use Rattle.nap_values.specs.{Colours.HasSixteenBitParts, Laws.IsWord}
pub use Rattle.nap_values.specs.Coordinates.{Coordinates, Displacement, IsInRange, IsInSquare}
