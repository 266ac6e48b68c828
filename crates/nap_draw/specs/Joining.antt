use Rattle.std.specs.Prelude.{List, Ok, false, length, ℕ, ⊤, ◌*◌, ◌++◌, ◌≡◌}
use Rattle.nap_draw.specs.{Names.Opcode, declared.work.Work.Work, Rule.RuleResult, Rule.rule}

-- the opcodes whose runs canonical text joins (PROFILE.md, Canonical text)
abbrev pub CanJoin : Opcode → Type 0
CanJoin Opcode.PointAbs = ⊤
CanJoin Opcode.LineAbs = ⊤
CanJoin Opcode.SetLineAbs = ⊤
CanJoin Opcode.SetRectOutlined = ⊤
CanJoin Opcode.SetRectFilled = ⊤
CanJoin _ = ⊥

-- the run is complete operands of k words
abbrev pub AreWholeOperands : ℕ → List ℕ → Type 0
AreWholeOperands k run = (operands : ℕ) × (length run ≡ operands * k)

-- an opcode on a run of complete operands, and then on a second run, does what it does on both runs joined
abbrev pub RunsJoin : Type 0
RunsJoin = (work : Work) (op : Opcode) (run more : List ℕ) (first second : RuleResult) →
    CanJoin op → AreWholeOperands work.domain.multi run → rule work op run ≡ Ok first → rule first.work op more ≡ Ok second →
    rule work op (run ++ more) ≡ Ok (record { entries = first.entries ++ second.entries; work = second.work; clears = false })
