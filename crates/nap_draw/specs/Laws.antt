use Rattle.std.specs.Prelude.{All, List, None, Ok, [], length, ℕ, ◌++◌, ◌∷◌, ◌≡◌, ◌≤◌}
use Rattle.nap_draw.specs.Names.{AllFit, AllInRange, CharSet, Code, IsWord, Opcode, State, StateInRange, StatesAgree, hand_of, left_out_opcode, text_entry, walk}
use Rattle.nap_draw.specs.{declared.work.Work.Work, Codes.code_rule, Codes.text_code, Codes.IsMade, Operands.operands, Rule.RuleResult, Rule.IsDrawn, Rule.rule_result, Rule.rule}

-- if the work's state agrees with the one that the entries left, the entries of an opcode fit one after another, and
-- the states agree again
abbrev pub RuleFits : Type 0
RuleFits = (work : Work) (op : Opcode) (run : List ℕ) (shown : State) (d : RuleResult) → rule work op run ≡ Ok d → StatesAgree work.state shown →
    AllFit shown d.entries × StatesAgree d.work.state (walk shown d.entries)

-- if the work's state and the words of the run are in range, the entries of an opcode and the state after it are
abbrev pub DrawnValuesAreInRange : Type 0
DrawnValuesAreInRange = (work : Work) (op : Opcode) (run : List ℕ) (d : RuleResult) → rule work op run ≡ Ok d → StateInRange work.state → All IsWord run →
    AllInRange d.entries × StateInRange d.work.state

-- every opcode that isn't left out has a rule
abbrev pub OpcodesAreDrawn : Type 0
OpcodesAreDrawn = (op : Opcode) → left_out_opcode op ≡ None → IsDrawn op

-- the first words of a run, as many as the operand length, are its first operand, and the others are operands of the
-- rest
abbrev pub WholeOperandFirst : Type 0
WholeOperandFirst = (k : ℕ) (operand rest : List ℕ) → 1 ≤ k → length operand ≡ k → operands k (operand ++ rest) ≡ operand ∷ operands k rest

-- an empty run has no operands
abbrev pub NoOperands : Type 0
NoOperands = (k : ℕ) → operands k [] ≡ []

-- if the work's state agrees with the one that the entries left, the entries of a character or control fit one after
-- another, and the states agree again
abbrev pub CodeFits : Type 0
CodeFits = (work : Work) (code : Code) (shown : State) (d : RuleResult) → code_rule work code ≡ Ok d → IsMade code → StatesAgree work.state shown →
    AllFit shown d.entries × StatesAgree d.work.state (walk shown d.entries)

-- if the work's state is in range, the entries of a character or control and the state after it are
abbrev pub CodeValuesAreInRange : Type 0
CodeValuesAreInRange = (work : Work) (code : Code) (d : RuleResult) → code_rule work code ≡ Ok d → IsMade code → StateInRange work.state →
    AllInRange d.entries × StateInRange d.work.state

-- the rule of a code that is a byte of a text gives the entry of that byte
abbrev pub TextByteRule : Type 0
TextByteRule = (work : Work) (set : CharSet) (code : ℕ) →
    code_rule work (text_code set code) ≡ Ok (rule_result work (text_entry set (hand_of work.state.drawing) code ∷ []))
