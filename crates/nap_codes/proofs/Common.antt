-- What the proofs of this crate name of its specs, of other crates and of std.
pub use Rattle.nap_codes.specs.{CodeSets.char_set_of, CodeSets.set_at, CodeSets.start_sets, Front.Front, Front.complete, Front.is_graphic, Front.refused, Front.unfinished, Laws.IsGraphic, Lexer.IsCall, Lexer.IsCharacter, Lexer.IsOpcode, Lexer.LexerState, Lexer.Steps, Lexer.StepsBy, Spelling.Spells, Tables.option_pair, Tables.text_step_of_row}
unfoldable pub use Rattle.nap_codes.specs.{CodeSets.after_control0, CodeSets.with_set}
unfoldable pub use Rattle.nap_codes.specs.Front.{argument_front, argument_of, bad_byte, column_front, control0_front, control1_front, designated_front, designation_front, escape_front, final_front, front, gl_front, last_byte, more_front, non_pdi_code, one_byte_later, opcode_front, pdi_front, position_front, sequence_front, shifted_front, single_shift_front, with_argument}
pub use Rattle.nap_codes.specs.HalfReadCodes.{IsHalfRead, control_of, half_read_bytes, rest_front}
unfoldable pub use Rattle.nap_codes.specs.Tables.{control0_rows, control1_rows, designation, left_out_opcode, mask_rows, number_rows, opcode_rows, row_of, set_rows}
pub use Rattle.nap_codes.specs.declared.code.CodeFault.TheVariants.{BadArgument, BadEscape, ShiftAlone}
pub use Rattle.nap_codes.specs.declared.code_set.GSet.TheVariants.{G0, G1}
pub use Rattle.nap_codes.specs.declared.control.Row.TheVariants.{More, Out, Whole}
pub use Rattle.nap_codes.specs.declared.lexer.HalfRead.TheVariants.{Control, Designation, Escape, Nothing, PositionRow, SingleShift2, SingleShift3, SpacedDesignation}
pub use Rattle.nap_codes.specs.Types.{Argument, ByteOutcome, CharSet, Code, CodeFault, CodeSet, CodeSets, HalfRead, Left, Mask, NextCode, Opcode, Row, Step, TextStep}
pub use Rattle.std.proofs.Common.{Bool, IfSome, List, None, Option, Some, [], ap, append-nil, append_assoc, ap₂, arith, cond, drop, eqb, false, get_or, inl, inr, is_some, leb, length, length-append, length-drop, length-take, lt_of_not-le, ltb, refl, rules, subst, suc, sym, take, true, zero, ℕ, ◌&&◌, ◌++◌, ◌+◌, ◌<◌, ◌||◌, ◌↔◌, ◌∙◌, ◌∷◌, ◌≡◌, ◌≢◌, ◌≤◌, ◌⊎◌}
pub use Rattle.std.proofs.{Math.Seq.drop-append_seam, Math.Seq.take-append_seam, lemmas.Bool.Decides.nat_tests}
pub use Rattle.std.proofs.lemmas.Bool.{eqb-false, eqb-true, le-leb, lt-ltb, ne_eqb}
pub use Rattle.std.proofs.lemmas.List.{length-take-le, take-append-drop, take-take, take_all}
pub use Rattle.std.specs.Option.{option_map}
