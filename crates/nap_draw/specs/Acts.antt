use Rattle.std.specs.Prelude.{Bool, Err, IfOk, List, Ok, Result, [], ◌≡◌, ◌≢◌}
use Rattle.nap_draw.specs.{Names.AllFit, Names.Entry, Names.Ghosts, Names.StatesAgree, Names.StopsAmid, declared.fault.DrawFault.DrawFault, declared.work.Work.Work, Rule.RuleResult, Draws.DrawsBy, Draws.draw_cause}

-- a code acted on the work w and the sink s by the result of its rule, and left v and t with this answer, which says
-- whether all macros are cleared: the sink took all entries, each fits, and the states agree again; or the work is
-- unchanged
abbrev pub Acts : {S A : Type 0} → (g : Ghosts S) → (A → Bool) → Result RuleResult DrawFault → Work → Work → S → S → Result A DrawFault → Type 0
Acts g clears by w v s t (Ok x) = (entries : List Entry) × (by ≡ Ok (record { entries = entries; work = v; clears = clears x })) × g.took s entries t
    × AllFit (g.state s) entries × StatesAgree v.state (g.state t)
Acts g clears by w v s t (Err fault) = (v ≡ w) × DrawsBy g.took g.broke g.failed by s t fault (draw_cause fault)

-- the answer of RESET says whether all macros are cleared
abbrev pub clears_macros : Bool → Bool
clears_macros clears = clears

-- the sink may lack memory for some entries
abbrev pub WantsFor : {S : Type 0} → Ghosts S → S → Type 0
WantsFor g s = (list : List Entry) × g.wants s list

-- memory ran out for one of these entries, where the sink may lack it for them
pub record WantsEntry {S : Type 0} (g : Ghosts S) (list : List Entry) (s t : S) : Type 0 where
  pub wants : g.wants s list
  pub stops : StopsAmid g.took s list t

-- memory ran out for one of the entries of a rule's result
abbrev pub WantsBy : {S : Type 0} → Ghosts S → Result RuleResult DrawFault → S → S → Type 0
WantsBy g by s t = IfOk by (λ d. WantsEntry g d.entries s t)

-- the rule's result has entries
abbrev pub GivesSome : Result RuleResult DrawFault → Type 0
GivesSome by = IfOk by (λ d. d.entries ≢ [])
