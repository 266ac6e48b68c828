-- What this crate names of other crates and of std.
pub use Rattle.nap_codes.specs.{CodeSets.set_at, CodeSets.start_sets, Front.complete, Front.front, Laws.IsCodeInRange, Laws.IsGraphic, Lexer.IsCharacter, Lexer.IsOpcode, Lexer.IsShift, Lexer.LexerState, Lexer.Steps, Lexer.StepsBy, NextCodes.IsNextOf, NextCodes.next_of, NextCodes.next_of_code, NextCodes.sets_after, Spelling.Spells, Tables.format_effector, Tables.is_fill, Tables.mask_rows, Tables.set_rows, declared.code.Code.Code, declared.code.CodeFault.CodeFault, declared.code.Step.Step, declared.code_set.CharSet.CharSet, declared.code_set.CodeSet.CodeSet, declared.code_set.CodeSets.CodeSets, declared.control.TextStep.TextStep, declared.opcode.Opcode.Opcode}
unfoldable pub use Rattle.nap_codes.specs.Tables.{control0_rows, row_of}
pub use Rattle.nap_draw.specs.{Acts.Acts, Acts.GivesSome, Acts.WantsBy, Acts.WantsFor, Acts.clears_macros, Carried.IsDrawn-prop, Codes.IsMade, Codes.code_as, Codes.code_rule, Codes.text_code, Draws.Cause, Draws.DrawsBy, Draws.device, Draws.fault_of, Draws.memory, Draws.stream, Limits.run_limit, Rule.IsDrawn, Rule.RuleResult, Rule.rule, Rule.rule_result, Rule.start_work, declared.fault.DrawFault.DrawFault, declared.work.Work.Work}
pub use Rattle.nap_list.specs.{Agreement.DefinitionsAgree, Agreement.StatesAgree, Batches.IsTextByte, Batches.batch_entries, Batches.text_entry, Limits.reads_limit, Propositions.StatesAgree-prop, Range.AllInRange, Range.InRange, Range.StateInRange, Shapes.entry_of_shape, SinkModels.sink_model_of, State.Legal, State.after, State.hand_of, State.start, declared.entry.Entry.Entry, declared.sink.BatchFault.BatchFault, declared.sink.Sink.Ghosts, declared.sink.SinkFault.SinkFault, declared.state.OpenDefinition.OpenDefinition, declared.state.State.State}
pub use Rattle.nap_list.specs.Putting.{BreaksAmid, FaultMatchesDevice, HaltsAfter, Put, PutSome, SinkModel, StopsAmid}
pub use Rattle.nap_list.specs.Reading.{IsCutOff, IsReadWhole, NoneFailed, ReadFailed, Reading, reading}
unfoldable pub use Rattle.nap_list.specs.State.{walk}
pub use Rattle.nap_values.specs.{Laws.IsOperandByte, Laws.IsWord, Operands.operand_words}
pub use Rattle.std.specs.{Int.bit_at, Int.trailing_zeros, Int.Bits.and_self, Io.KnownBytes.Consumes, List.prefix_len, Option.ForNone, Option.unwrap_or}
pub use Rattle.std.specs.Prelude.{IfSome, IsTrue, bit_and, slice_get, slice_index, vec_capacity, vec_len, ⊤, ◌/◌}
