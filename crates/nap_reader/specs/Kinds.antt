use Rattle.std.specs.Prelude.{Bool, ℕ}
use Rattle.nap_codes.specs.{declared.code.Code.Code, declared.opcode.Opcode.Opcode}

-- what a reader does with a code
pub data Kind : Type 0 where
  -- opens a run of operand bytes
  opens : Opcode → Kind
  -- is refused as Stray: an operand word outside a run
  strays : Kind
  adds_nothing : Kind
  -- acts: a character or a control
  acts : Code → Kind
  -- calls the macro with this name
  calls : ℕ → Kind
  -- defines the macro with this name, whose body is presented as soon as it is defined, or not
  binds : ℕ → Bool → Kind

-- what a reader does with each code
abbrev pub kind_of : Code → Kind
kind_of (Code.Op op) = opens op
kind_of (Code.Operand word) = strays
kind_of Code.Fill = adds_nothing
kind_of Code.Shifted = adds_nothing
kind_of (Code.Designated number set) = adds_nothing
kind_of (Code.Call name) = calls name
kind_of (Code.DefMacro name show) = binds name show
kind_of c = acts c
