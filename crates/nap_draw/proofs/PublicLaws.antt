use Rattle.nap_draw.proofs.{CodeFits, CodeValuesAreInRange, DrawnValuesAreInRange, NoOperands, Opcode, OpcodesAreDrawn, RuleFits, RunsJoin, TextByteRule, WholeOperandFirst, arith, left_out_opcode, length-append, Common.operands, refl, ◌++◌}
use Rattle.nap_draw.proofs.Fits
use Rattle.nap_draw.proofs.Ranges
use Rattle.nap_draw.proofs.Runs
use Rattle.nap_draw.proofs.Walks

-- The proofs of the laws.

pub rule_fits : RuleFits
rule_fits = Fits.rule_fits

pub code_fits : CodeFits
code_fits = Fits.code_fits

pub drawn_values_are_in_range : DrawnValuesAreInRange
drawn_values_are_in_range = Ranges.drawn_values_are_in_range

pub code_values_are_in_range : CodeValuesAreInRange
code_values_are_in_range = Ranges.code_values_are_in_range

pub opcodes_are_drawn : OpcodesAreDrawn
unfolding left_out_opcode
opcodes_are_drawn Opcode.IncrementalPoint e = absurd (cc)
opcodes_are_drawn Opcode.IncrementalLine e = absurd (cc)
opcodes_are_drawn Opcode.IncrementalPolyFilled e = absurd (cc)
opcodes_are_drawn _ e = tt

pub whole_operand_first : WholeOperandFirst
whole_operand_first k operand rest some is =
    Runs.operands_chunk k k (operand ++ rest) operand rest refl some refl (omega (arith, length-append operand rest)) (omega (arith, length-append operand rest))

pub no_operands : NoOperands
unfolding operands
no_operands k = refl

pub runs_join : RunsJoin
runs_join = Runs.runs_join

pub typed_rule : TextByteRule
typed_rule = Walks.typed_rule
