-- What the proofs of this crate name of its specs, of other crates and of std.
pub use Rattle.arrayvec.proofs.ArrayVecLemmas.{items-with_items}
pub use Rattle.nap_codes.proofs.PublicLaws.{code_ranges, format_effector_front}
pub use Rattle.nap_list.specs.Names.{CharSet, Code, Components, Coordinates, IfSome, IsCodeInRange, IsSome, TextStep, format_effector, not, refill, slice_get, start_sets, unwrap_or, ⊤, ◌%◌, ◌/◌, ◌==◌}
pub use Rattle.nap_list.specs.Agreement.{AgreeingFits, Agrees, AreCurrent, BaseAgrees, ColourAgrees, DefinitionsAgree, EqualCurrent, ModeZeroIsBase, StatesAgree}
pub use Rattle.nap_list.specs.{BatchLaws.lines_rest, BatchLaws.points_rest, BatchLaws.sized_lines, BatchLaws.sized_points, Counting.CountsEntries, Counting.count_sink_model, Counting.counts_none, Entry.IsCode, Entry.StepMade, Entry.WellMade, Entry.attributes, Entry.ink_attributes, Known.colour_code, Known.is_known, Known.known_after_reset, Known.with_known_colour, Laws.BatchIsCurrent, Laws.CurrentAttributesChangeNothing, Laws.LegalIsNowhereIllegal, Laws.StartAgrees, Laws.TextEntriesAreWellMade, Laws.TextLeaves, Shapes.entry_of_shape, Shapes.outline, Shapes.shape_end, Shapes.shape_on, Shapes.shape_points, SinkModels.sink_model_of, Walks.fit_more, Walks.walk_more, declared.known.MapColour.MapColour}
unfoldable pub use Rattle.nap_list.specs.{Batches.EachIsCurrent, Batches.last_point, Batches.polyline_entries, Batches.text_entries_in, State.AllFit, State.walk}
pub use Rattle.nap_list.specs.Batches.{batch_entries, line_entry, point_entry, text_entry, text_entry_as, text_entry_on, with_pen_and_last}
pub use Rattle.nap_list.specs.Putting.{NotTaken, Putting, SinkModel, sink_model}
pub use Rattle.nap_list.specs.PuttingLaws.{next_stops, one_fits, one_goes, one_put, put_begins, some_taken, wanting_put}
pub use Rattle.nap_list.specs.Sending.{SendsAll, rest_of, sending, write_fails, write_grows}
pub use Rattle.nap_list.specs.State.{AttributesFit, ColourFits, Fits, IsIllegalAt, Legal, MayCome, PenFits, TextureFits, after, base_after, definition_after, effect_on_drawing, hand_of, ink_of, known_after, last_after, reset, restored_drawing, start, with_attributes, with_pen, with_pen_at}
pub use Rattle.nap_list.specs.Types.{Attributes, Base, Batch, Colour, Drawing, Entry, Hand, Ink, LastChar, OpenDefinition, Pen, Shape, ShapeKind, State, Texture}
pub use Rattle.std.proofs.Common.{Bool, Err, IsErrOf, IsTrue, List, None, Ok, Option, Some, [], ap, append-nil, arith, cond, drop, false, filter, get_or, inl, inr, is_some, length, length-append, length-drop, length-set, length-take, map, refl, set, suc, sym, take, true, zero, ℕ, ◌++◌, ◌+◌, ◌-◌, ◌<◌, ◌↔◌, ◌∙◌, ◌∷◌, ◌≡◌, ◌≤◌}
pub use Rattle.std.proofs.{Math.Bool.or-false, Math.Bool.or-true, Math.Seq.drop-cons, Math.Seq.drop-nil, lemmas.Bool.true≢false, lemmas.List.Elements.filter_more}
pub use Rattle.std.proofs.lemmas.List.{drop-drop, drop-set-lt, drop_more, length-take-le, take-append-drop, take_all, take_at, take_more, take_more_set}
