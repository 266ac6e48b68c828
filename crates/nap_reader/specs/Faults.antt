use Rattle.std.specs.Prelude.{ℕ, List, codes}
use Rattle.nap_reader.specs.{Names.CodeFault, Names.DrawFault, declared.fault.Fault.Fault}

-- the number of a refusal, and its name as it is printed
abbrev pub row_of_fault : Fault → ℕ × List ℕ
row_of_fault Fault.EighthBit = (1, codes "EighthBit")
row_of_fault Fault.BadEscape = (2, codes "BadEscape")
row_of_fault Fault.ShiftAlone = (3, codes "ShiftAlone")
row_of_fault Fault.ShiftedCode = (4, codes "ShiftedCode")
row_of_fault Fault.BadArgument = (5, codes "BadArgument")
row_of_fault (Fault.LeftOut _) = (6, codes "LeftOut")
row_of_fault Fault.ThreeD = (7, codes "ThreeD")
row_of_fault Fault.Missing = (8, codes "Missing")
row_of_fault Fault.ManyColours = (9, codes "ManyColours")
row_of_fault Fault.Outside = (10, codes "Outside")
row_of_fault Fault.PenUnknown = (11, codes "PenUnknown")
row_of_fault Fault.NoAddress = (12, codes "NoAddress")
row_of_fault Fault.LongRun = (13, codes "LongRun")
row_of_fault Fault.ManyPoints = (14, codes "ManyPoints")
row_of_fault Fault.NothingToRepeat = (15, codes "NothingToRepeat")
row_of_fault Fault.Stray = (16, codes "Stray")
row_of_fault Fault.Budget = (17, codes "Budget")
row_of_fault Fault.Store = (18, codes "Store")
row_of_fault Fault.Cut = (19, codes "Cut")
row_of_fault Fault.Unended = (20, codes "Unended")
row_of_fault Fault.Memory = (21, codes "Memory")
row_of_fault Fault.Sink = (22, codes "Sink")

abbrev pub number_of : Fault → ℕ
number_of fault = (row_of_fault fault).0

abbrev pub name_of : Fault → List ℕ
name_of fault = (row_of_fault fault).1

-- the reader's name of a fault of a code
abbrev pub code_fault : CodeFault → Fault
code_fault CodeFault.EighthBit = Fault.EighthBit
code_fault CodeFault.BadEscape = Fault.BadEscape
code_fault CodeFault.ShiftAlone = Fault.ShiftAlone
code_fault CodeFault.ShiftedCode = Fault.ShiftedCode
code_fault CodeFault.BadArgument = Fault.BadArgument
code_fault (CodeFault.LeftOut left) = Fault.LeftOut left

-- the reader's name of a fault of a drawing rule
abbrev pub draw_fault : DrawFault → Fault
draw_fault DrawFault.ThreeD = Fault.ThreeD
draw_fault DrawFault.Missing = Fault.Missing
draw_fault DrawFault.ManyColours = Fault.ManyColours
draw_fault DrawFault.Outside = Fault.Outside
draw_fault DrawFault.PenUnknown = Fault.PenUnknown
draw_fault DrawFault.NoAddress = Fault.NoAddress
draw_fault DrawFault.ManyPoints = Fault.ManyPoints
draw_fault DrawFault.NothingToRepeat = Fault.NothingToRepeat
draw_fault DrawFault.Memory = Fault.Memory
draw_fault DrawFault.Sink = Fault.Sink
