-- The types of codes, and of the sets, controls and opcodes that they come from.
pub use Rattle.nap_codes.specs.{declared.control.Argument.Argument, declared.lexer.ByteOutcome.ByteOutcome, declared.code_set.CharSet.CharSet, declared.code.Code.Code, declared.code.CodeFault.CodeFault, declared.code_set.CodeSet.CodeSet, declared.code_set.CodeSets.CodeSets, declared.control.CursorKind.CursorKind, declared.code_set.GSet.GSet, declared.lexer.HalfRead.HalfRead, declared.opcode.Left.Left, declared.control.Mask.Mask, declared.next_code.NextCode.NextCode, declared.opcode.Opcode.Opcode, declared.control.Row.Row, declared.control.Size.Size, declared.code.Step.Step, declared.control.TextStep.TextStep}
