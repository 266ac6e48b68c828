-- What the proofs of this crate name of its specs, of other crates and of std.
pub use Rattle.nap_codes.proofs.PublicLaws.{format_effector_front}
pub use Rattle.nap_draw.specs.Names.{Agrees, AllInRange, Area, AreaInRange, Attributes, Base, BaseInRange, CharSet, CharSize, Code, Colour, ColourAgrees, ColourInRange, Components, Coordinates, Course, Definition, Displacement, Drawing, DrawingInRange, Entry, EqualCurrent, Fits, Ghosts, Hand, HandInRange, HasSixteenBitParts, InRange, Ink, InkInRange, IsAddress, IsByte, IsCode, IsInRange, IsInSquare, IsTextByte, IsWord, LastChar, MapColour, MapColourInRange, MaskFits, MayCome, ModeZeroIsBase, Opcode, OpenDefinition, OpenedInRange, OperandLengths, Pen, PenInRange, ShapeKind, SinkFault, SizeInRange, State, StateInRange, StatesAgree, StepInRange, StepMade, TakesAll, TextInRange, TextLook, TextStep, Texture, TextureFits, TextureInRange, Vec, WantsMore, WellMade, after, attributes, base_after, chunks_exact_rest, chunks_exact_size, chunks_rest, chunks_size, circle_closed, colour_code, colour_of, colour_only, corner, definition_after, displaced_point, div_ceil, effect_on_drawing, format_effector, hand_attributes, hand_of, ink_of, is_err, is_known, is_ok, known_after, known_after_reset, last_after, last_char_of_text, multi_of, no_attributes, one_fits, one_goes, one_put, one_stops, operand_words, outline, point_at, point_entry, points_limit, put_begins, put_ends, reset, rest_put, restored_drawing, shape_end, shape_on, single_of, sink_model_of, some_put, some_stops, some_wants, start_drawing, start_text, start_texture, steps_limit, text_entry, vec_capacity, vec_len, with_attributes, with_colour, with_known_colour, with_pen, with_pen_at, without_address}
unfoldable pub use Rattle.nap_codes.specs.Tables.{left_out_opcode}
pub use Rattle.nap_draw.specs.{Acts.Acts, Acts.GivesSome, Acts.WantsBy, Acts.clears_macros, Counted.ActsFully, Counted.Arrives, Counted.Displaces, Draws.Cause, Draws.DrawsBy, Draws.draw_cause, Draws.fault_of, Draws.stream, Joining.AreWholeOperands, Joining.RunsJoin, Limits.run_limit, Operands.addresses, Operands.moves, declared.fault.DrawFault.DrawFault, declared.figures.ShapeStart.ShapeStart, declared.figures.Figure.Figure, declared.figures.Span.Span, declared.points.Trail.Trail, declared.work.Work.Work}
pub use Rattle.nap_draw.specs.Codes.{IsMade, char_on, code_rule, definition_ended, definition_ended_by, definition_opened, definition_result, look_result, one_entry_result, with_last}
unfoldable pub use Rattle.nap_draw.specs.{Codes.drawn_text, Codes.repeated_chars, Execution.pair_spans, Execution.rect_spans, Execution.span_ends, Operands.cut_operands, Operands.operands}
pub use Rattle.nap_draw.specs.Execution.{ActsByRule, AppliesControl, Filling, Fills, Holding, LacksPlaces, MayFollow, PutsList, PutsSoFar, RuleRefuses, SetsWork, clears_nothing, definition_start, displaced_points, figure_end, figure_entry, shape_from, shape_result, start_size, trail_entry, trail_result, with_pen_moved, with_pen_moved_to}
unfoldable pub use Rattle.nap_draw.specs.Geometry.{absolute_spans, last_or, points_at, points_reached, polyline_spans, rect_chain_spans, relative_spans}
pub use Rattle.nap_draw.specs.Geometry.{arc_points, cons_if_all, poly_points, span, span_by}
pub use Rattle.nap_draw.specs.Laws.{CodeFits, CodeValuesAreInRange, DrawnValuesAreInRange, NoOperands, OpcodesAreDrawn, RuleFits, TextByteRule, WholeOperandFirst}
pub use Rattle.nap_draw.specs.Rule.{RuleResult, and_then, arc_on, area_of, area_part, at_least_one, at_most_limit, blink, blink_rule, blinks, colour_of_base, complete_pairs, domain_in, domain_rule, entries_result, entry_result, field_on, field_rule, first_and_more, first_move, from_pen, map_rule, moves_of, pen_point, pen_result, poly_on, rect_on, reset_rule, rule, rule_result, select_rule, selected_colour, set_color_rule, set_color_under, shape_from_pen, shape_from_point, span_line_entry, start_domain, text_rule, texture_rule, with_domain, with_drawing, with_map_colour, with_operands}
pub use Rattle.nap_draw.specs.declared.fault.DrawFault.TheVariants.{ManyColours, ManyPoints, Memory, Missing, Outside}
pub use Rattle.nap_list.proofs.PublicLaws.{agreeing_fits, fits_join, taking_nothing, text_leaves, typed_made, walks_join}
unfoldable pub use Rattle.nap_list.specs.{Batches.polyline_entries, Batches.text_entries_in, State.AllFit, State.walk}
pub use Rattle.nap_values.proofs.PublicLaws.{displacements_are_unique, points_are_inside, values_are_in_range}
pub use Rattle.std.proofs.Common.{All, Bool, Err, IfErr, IfOk, IfSome, IsErrAnd, IsErrOf, IsSome, List, None, Ok, OnErr, Option, Result, Some, [], add-one, ap, append-nil, append_assoc, ap₂, arith, cond, drop, drop-cons, eqb, false, get_or, inl, inr, is_some, leb, length, length-append, length-drop, length-set, length-take, ltb, map, min, nat_lt, option_map, refl, replicate, rules, subst, suc, suc-mul, sym, take, take-append-drop, true, unwrap_or, zero, ℕ, ◌%◌, ◌&&◌, ◌*◌, ◌++◌, ◌+◌, ◌-◌, ◌/◌, ◌<◌, ◌||◌, ◌∙◌, ◌∷◌, ◌≡◌, ◌≢◌, ◌≤◌, ◌⊎◌}
pub use Rattle.std.proofs.Math.Nat.{add-div_left, add-mod_left, div-eq_of_lt, mod-eq_of_lt}
pub use Rattle.std.proofs.{Math.Seq.drop-append_seam, Math.Seq.take-append_seam, lemmas.Bool.Decides.nat_tests, lemmas.Bool.cond_both, lemmas.Grind.div_ceil_times, lemmas.Grind.replicate_next, lemmas.Nat.mul-le, lemmas.Option.unwrap_or-slice_get, lemmas.Result.err_from_is_err_and}
pub use Rattle.std.proofs.lemmas.List.Elements.{All-append, All-cons, All-drop, All-filter, All-head, All-map, All-nil, All-replicate, All-tail, All-take, All-weaker}
pub use Rattle.std.proofs.lemmas.List.{drop-map, drop_all, drop_min, get_or_read, length-map, map-append, take-map, take-replicate, take_all, take_min, take_more, take_more_set}
pub use Rattle.std.specs.{List.slice_get, List.slice_index, Option.ok_or, Option.option_and_then, Option.option_or}

-- what a rule gives: its result, or the fault with which it refuses the code
abbrev pub Outcome : Type 0
Outcome = Result RuleResult DrawFault

-- these attributes have the base colour that their colour mode asks for
abbrev pub InMode : Drawing → Type 0
InMode d = ModeZeroIsBase d.base d.colour
