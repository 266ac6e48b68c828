-- `left_by` makes a struct that has no field at run time, and picks the state. Assumes `Logic`.
use Rattle.std.proofs.{Common.List, Common.[], Common.◌∷◌, Common.refl, raw_atomic.Walks.proved}
use contract.Running.{tables}
use denote.{Builtin.RefOf, Exit.yes, Steps.nothing, Triple.Entry.alive}
use denote.RattleType.{RattleType, Valss, owns}
use denote.Ref.{shr_vals, shr_Tells}
use denote.Signature.{types_at, plain, named_lft}
use denote.Struct.Struct.{Struct, within}
use denote.Triple.Walked.{Stays, says, walk_of, ends_at, stay_dropped, Goes-dropped}
use mir.Syntax.{named}
use mir.Val.{Val, vptr, vstruct, vnil}
use seplogic.Ra.Ura.{Ura}
use types.ByLocal.{alloc_all, pass_all, free_all, look_at, sets}
use types.Kit.{Goal, Step, step, Item, fpack, feq_i, ‵, raw, ◌⊛◌, ◌$◌, ◌∵◌, !, qed, move, keep, split, fjoin, suffices, done}
use types.{Logic.Logic, Part.agg, Run.enter, Run.returns, Run.no_more}
use Rattle.nap_list.specs.{Taken.state_left, contracts.sink_state.GhostState.left_by.Key.name as #self}
use Rattle.nap_list.specs.contracts.sink_state.Taken as Taken
use Rattle.nap_list.specs.contracts.sink_state.GhostState as GhostState
use Rattle.nap_list.specs.contracts.sink_state.GhostState.left_by.{ended, clauses}
use Rattle.nap_list.proofs.sink_state.GhostState.left_by.Statement.{statement}
use Rattle.nap_list.proofs.sink_state.GhostState.left_by.Code as code

abbrev none : Val
none = vstruct vnil

abbrev fieldless : RattleType
fieldless = Struct (record { name = []; args = []; types = []; fields = [] })

none_made : {M : Type 1} {𝓤 : Ura M} {𝓛 : Logic 𝓤} {K : Type 0} {Γ : List (Item 𝓤)} {G : Goal 𝓤 𝓛.H} → K → Step K 𝓛 (‵ (fieldless.own_val tt (none ∷ [])) ∷ Γ) G Γ G
none_made t = step (λ s.
    nothing t $ feq_i t (List Val) (none ∷ []) (none ∷ []) refl $ fjoin t $
    fpack t (Valss []) (within (record { name = []; args = []; types = []; fields = [] }) tt (none ∷ [])) tt $ s)

abbrev stayed : Stays ended.signature.params ended.kept
stayed = (stay_dropped _ yes, tt)

pub left_by_spec : {M : Type 1} → statement M
left_by_spec 𝓤 𝓛 𝓜 𝓡 wired =
    let c = clauses 𝓛 𝓜.mem 𝓡.returns in let W = walk_of 𝓛 ended stayed c in let 𝓣 = tables 𝓤 𝓛.H 𝓜 𝓡 𝓡.env in
    proved 𝓛 ended stayed c 𝓜 𝓡
    (Goes-dropped 𝓛 2 (RefOf (0 ∷ []) tt (plain (λ κs. Taken.the_row (named_lft 2 1 tt κs))) (λ _. tt)) yes (λ κs x f. refl), tt)
    #self code.function (code.unfolded 𝓤 𝓛.H 𝓜 𝓡 wired)
    (λ κs. (shr_vals, tt))
    (λ κs. (shr_Tells (named 0) κs.0 (Taken.the_row (named_lft 2 1 tt κs)), tt))
    (λ κs qs bounds a g are.
    let u : Val = vptr a.0.ref_ptr.0 a.0.ref_ptr.1 in
    let y : W.Ghost = ((κs, qs, bounds, a, (u ∷ [], tt)), g) in
    let next : (GhostState.the_row).Denot = record { state = state_left a.0.now } in
    qed 𝓛 ((raw (alive 𝓛 ended.signature κs qs) ⊛ ‵ (owns (types_at ended.signature.params κs) a y.0.4)) ∷ raw ((c κs a).requires g) ∷ []) ∵
    keep ! (0 ∷ []) $ split ! $ keep ! (0 ∷ []) $
    enter ! 𝓣.C 𝓣.Λ code.function (u ∷ []) (W.post y) $
    alloc_all ! (λ l. pass_all ! refl ((tt, tt), tt) $
    sets ! (agg ! (no_more !)) refl (tt, tt) $
    nothing ! $ none_made ! $ fjoin ! $
    returns ! (look_at ! 0 refl) $ free_all ! refl $
    suffices ! _ (ends_at 𝓛 ended stayed c y none next (tt, tt) (tt, tt)) $ says ! refl $
    nothing ! $ nothing ! $ fjoin ! $ move ! (2 ∷ 0 ∷ 1 ∷ []) $ done !))
