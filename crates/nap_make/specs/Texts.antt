use Rattle.std.specs.Prelude.{List, length, ℕ, ◌≡◌}
use Rattle.nap_make.specs.Types.{Entry, IsCutOff, ListFault, MakeFault, NoneFailed, Reading}
use Rattle.nap_make.specs.{Lists.MakesNone, declared.page.MadePage.MadePage, Making.IsMadeOf, Pages.RefusesLinesBy}

-- A page made in memory of the lines p.

-- it is the page that these lines make, with the number of its entries
abbrev pub IsPageMade : List ℕ → MadePage → Type 0
IsPageMade p page = (made : IsMadeOf page.text.items p) × (page.count ≡ length made.entries)

-- why the lines make no page; memory may run out anywhere, also for the page
abbrev pub DeniesLines : List ℕ → MakeFault → Type 0
DeniesLines p MakeFault.Memory = Unit {0}
DeniesLines p MakeFault.Write = ⊥
DeniesLines p fault = (before : List Entry) × MakesNone p before fault

-- Why an input whose bytes p were read gives no page: it failed or was read too often; memory ran out, and no read
-- failed; or its lines make none.
abbrev pub DeniesInput : List ℕ → Reading → ListFault → Type 0
DeniesInput p seen ListFault.Read = IsCutOff seen p
DeniesInput p seen (ListFault.Lines MakeFault.Memory) = NoneFailed seen
DeniesInput p seen (ListFault.Lines fault) = (before : List ℕ) × RefusesLinesBy p seen before fault

-- the fault where a failed write to memory is lack of memory
abbrev pub fault_of_text : MakeFault → MakeFault
fault_of_text MakeFault.Write = MakeFault.Memory
fault_of_text fault = fault

-- the same of an input
abbrev pub fault_of_input : ListFault → ListFault
fault_of_input (ListFault.Lines fault) = ListFault.Lines (fault_of_text fault)
fault_of_input ListFault.Read = ListFault.Read
