use Rattle.nap_draw.proofs.{Err, Execution.does_put, Execution.does_stop, Execution.does_unfilled, Ok, Outcome, Some, State, [], agreeing_fits, ap, arith, clears_nothing, false, length, moves_of, operand_words, outline, refl, shape_on, shape_result, sym, walk, ◌∙◌, ◌∷◌}
use Rattle.nap_draw.proofs.Results.{holds_shape, reached_length, shape_comes, shape_leaves, shape_made}
use Rattle.nap_draw.proofs.work.Work.shape.Goals as goal

pub returns-in_err-steps_into-clause-acts : goal.returns-in_err-steps_into-clause-acts
returns-in_err-steps_into-clause-acts g c =
    does_unfilled g.S.Sink _ (g.met.S.Sink.took_none _) _ _ _ _ _ c.from_residual.ensures.1 (shape_result c.args.self.now c.args.kind c.args.filled c.in-Ok.begun.0)
    (c.in-Ok.ensures.ok c.args.kind c.args.filled) refl (λ xs. (_, refl)) c.in_err-steps_into.ensures.fills (λ e. omega (arith, c.in_err-steps_into.ensures.memory.1 (ap Err e), c.in-Ok.ensures.within))

pub put_shape-requires : goal.put_shape-requires
put_shape-requires g c =
    let s = c.args.self.now.state in
    let p = c.in-Ok.begun.0 in
    let qs = c.as_slice-others.result.now in
    let ps = outline c.args.kind (p ∷ qs) in
    let long = reached_length p (moves_of c.args.self.now (operand_words c.in-Ok.begun.1.now)) _ c.in_ok-steps_into.ensures.fills in
    let same = ap length c.as_slice-others.ensures.value in
    let made = shape_made c.args.kind c.args.filled s.drawing p qs (omega (arith, c.in-Ok.ensures.some, long, same)) (omega (arith, c.in-Ok.ensures.few, long, same)) in
    (agreeing_fits s _ (shape_on c.args.kind c.args.filled s.drawing ps) c.requires (holds_shape c.args.kind c.args.filled s.drawing ps) made (shape_comes c.args.kind c.args.filled s.drawing ps s)).0

pub returns-in_err-put_shape-clause-acts : goal.returns-in_err-put_shape-clause-acts
returns-in_err-put_shape-clause-acts g c =
    let is = c.in-Ok.ensures.ok c.args.kind c.args.filled ∙ ap (shape_result c.args.self.now c.args.kind c.args.filled c.in-Ok.begun.0) (c.in_ok-steps_into.ensures.fills ∙ ap Some (sym c.as_slice-others.ensures.value)) in
    does_stop g.S.Sink clears_nothing _ _ _ _ _ _ c.from_residual-in_err-put_shape.ensures.1 is c.in_err-put_shape.ensures

pub returns-clause-acts : goal.returns-clause-acts
unfolding walk
returns-clause-acts g c =
    let w = c.args.self.now in
    let p = c.in-Ok.begun.0 in
    let qs = c.as_slice-others.result.now in
    let ps = outline c.args.kind (p ∷ qs) in
    let is = c.in-Ok.ensures.ok c.args.kind c.args.filled ∙ ap (shape_result w c.args.kind c.args.filled p) (c.in_ok-steps_into.ensures.fills ∙ ap Some (sym c.as_slice-others.ensures.value)) in
    let by : State → Outcome = λ s. Ok (record { entries = shape_on c.args.kind c.args.filled w.state.drawing ps ∷ []; work = record w { state = s }; clears = false }) in
    rw c.end-end.ensures (does_put g.S.Sink clears_nothing ⊥ w _ _ (tt {0})
    (is ∙ ap by (shape_leaves c.args.kind c.args.filled w.state p qs c.requires.drawing.mode)) c.in_ok-put_shape.ensures)
