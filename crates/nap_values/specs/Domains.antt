use Rattle.std.specs.Prelude.{ℕ}

-- the operand lengths, in words: of a multi-value and of a single-value operand
pub record OperandLengths : Type 0 where
  pub multi : ℕ
  pub single : ℕ
