use Rattle.std.proofs.Props.{props}
use Rattle.nap_codes.specs.declared.opcode.Opcode.{Opcode}
use Rattle.nap_draw.specs.Rule.{IsDrawn}

-- `IsDrawn` has at most one proof, so a ghost field may hold it.
pub IsDrawn-prop : (op : Opcode) → IsProp (IsDrawn op)
IsDrawn-prop Opcode.IncrementalPoint = hlevel props
IsDrawn-prop Opcode.IncrementalLine = hlevel props
IsDrawn-prop Opcode.IncrementalPolyFilled = hlevel props
IsDrawn-prop _ = hlevel props
