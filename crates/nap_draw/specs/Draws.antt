use Rattle.std.specs.Prelude.{Bool, Err, List, Ok, Result, false, true, ◌≡◌, ◌⊎◌}
use Rattle.nap_draw.specs.{Names.BreaksAmid, Names.Entry, Names.SinkFault, Names.StopsAmid, declared.work.Effects.Effects, declared.work.Work.Work, declared.fault.DrawFault.DrawFault, Rule.RuleResult}

-- the fault of a code whose entry a sink didn't take
abbrev pub fault_of : SinkFault → DrawFault
fault_of SinkFault.Memory = DrawFault.Memory
fault_of SinkFault.Write = DrawFault.Sink

-- the cause of a fault
pub data Cause : Type 0 where
  -- the codes of the stream
  stream : Cause
  -- lack of memory
  memory : Cause
  -- the sink's device
  device : Cause

abbrev pub draw_cause : DrawFault → Cause
draw_cause DrawFault.Memory = memory
draw_cause DrawFault.Sink = device
draw_cause _ = stream

-- What a sink took of the entries of a rule's result when this fault was answered. Memory can run out before the first
-- of them or for one of them.
abbrev pub DrawsBy : {S : Type 0} → (S → List Entry → S → Type 0) → (S → List Entry → Entry → S → Type 0) → (S → Bool) → Result RuleResult DrawFault → S → S → DrawFault → Cause → Type 0
DrawsBy took broke failed by s t fault stream = (by ≡ Err fault) × (t ≡ s)
DrawsBy took broke failed by s t fault memory = (drawn : RuleResult) × (by ≡ Ok drawn) × ((t ≡ s) ⊎ StopsAmid took s drawn.entries t)
DrawsBy took broke failed by s t fault device = (drawn : RuleResult) × (by ≡ Ok drawn) × (((failed s ≡ true) × (t ≡ s)) ⊎ BreaksAmid broke s drawn.entries t)

-- what a sink took of the entries of a rule's result when this was answered
abbrev pub Draws : {S : Type 0} → (S → List Entry → S → Type 0) → (S → List Entry → Entry → S → Type 0) → (S → Bool) → Result RuleResult DrawFault → S → S → Result Effects DrawFault → Type 0
Draws took broke failed by s t (Ok effects) = (entries : List Entry) × (by ≡ Ok (record { entries = entries; work = effects.work; clears = effects.clears })) × took s entries t
Draws took broke failed by s t (Err fault) = DrawsBy took broke failed by s t fault (draw_cause fault)

-- an answer of a code that clears no macros
abbrev pub without_clear : Result Work DrawFault → Result Effects DrawFault
without_clear (Ok work) = Ok (record { work = work; clears = false })
without_clear (Err fault) = Err fault
