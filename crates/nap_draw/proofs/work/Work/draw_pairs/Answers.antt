use Rattle.nap_draw.proofs.{Coordinates, Fits.all_fit, List, None, PutsSoFar, Walks.draws_end, Walks.stroke_lands, ap, arith, chunks_exact_rest, chunks_exact_size, clears_nothing, figure_end, figure_entry, last_or, map, one_fits, one_goes, one_stops, option_map, pair_spans, put_begins, put_ends, refl, rules, subst, sym, ◌∙◌, ◌≡◌}
use Rattle.nap_draw.proofs.Execution.{does_put, does_stop, end_here, paired_few, paired_last, paired_left, two_of}
use Rattle.nap_draw.proofs.work.Work.draw_pairs.Goals as goal

pub loop-pair-init : goal.loop-pair-init
loop-pair-init g c =
    let size : chunks_exact_size c.into_iter-pair-iterator.result ≡ 2 = search rules in
    let all : chunks_exact_rest c.into_iter-pair-iterator.result ≡ c.args.points.now = search rules in
    let entries = λ (ps : List Coordinates). map (figure_entry c.args.figure c.args.self.now.state.drawing) (pair_spans ps) in
    record {
      can = omega arith;
      finite = tt;
      size = size;
      last = ap (λ (ps : List Coordinates). last_or None (pair_spans ps)) all;
      putting = subst (λ (ps : List Coordinates). PutsSoFar g.S.Sink c.args.sink.now c.args.sink.now (entries c.args.points.now) (entries ps))
          (sym all) (put_begins _ _ _ (g.met.S.Sink.took_none _));
    }

pub put-requires : goal.put-requires
put-requires g c =
    let steps = c.in-Some.ensures.steps in
    let left = two_of _ _ _ _ _ (steps.1.1 ∙ c.loop-pair.invariant.size) c.index-pair-0.is c.index-pair-1.is steps.1.0 in
    one_fits _ _ _ _ _ _ _ c.loop-pair.invariant.putting (paired_left _ c.args.self.now.state.drawing _ _ _ _ _ left c.entry.ensures)
    (all_fit (stroke_lands c.args.figure) c.args.self.now.state None (pair_spans c.args.points.now) _ c.requires).0

pub loop-pair-preserved : goal.loop-pair-preserved
loop-pair-preserved g c =
    let inv = c.loop-pair.invariant in
    let steps = c.in-Some.ensures.steps in
    let put = c.in_ok-put.ensures in
    let left = two_of _ _ _ _ _ (steps.1.1 ∙ inv.size) c.index-pair-0.is c.index-pair-1.is steps.1.0 in
    record {
      can = omega (arith, steps.0, inv.can);
      finite = tt;
      size = steps.0 ∙ inv.size;
      last = paired_last _ _ _ _ _ left ∙ inv.last;
      putting = one_goes _ _ _ _ _ inv.putting g.met.S.Sink.took_more _ c.entry.result _
          (paired_left _ c.args.self.now.state.drawing _ _ _ _ _ left c.entry.ensures) put.took put.after put.only_write put.refuses;
    }

pub returns-in_err-put : goal.returns-in_err-put
returns-in_err-put g c =
    let steps = c.in-Some.ensures.steps in
    let left = two_of _ _ _ _ _ (steps.1.1 ∙ c.loop-pair.invariant.size) c.index-pair-0.is c.index-pair-1.is steps.1.0 in
    does_stop g.S.Sink clears_nothing _ _ _ _ _ _ c.from_residual.ensures.1 refl (one_stops _ (Unit {0}) _ _ _ _ c.loop-pair.invariant.putting (g.met.S.Sink.took_none _) g.met.S.Sink.took_more g.met.S.Sink.took_broke g.met.S.Sink.wants_more _ c.entry.result _ _
    (paired_left _ c.args.self.now.state.drawing _ _ _ _ _ left c.entry.ensures) (grind arith))

pub returns : goal.returns
returns g c =
    let w = c.args.self.now in
    let inv = c.loop-pair.invariant in
    let none = paired_few (chunks_exact_rest c.loop-pair.pair-iterator) (omega (arith, c.in-None.ensures.steps.1.0, inv.size)) in
    let last = c.end.ensures ∙ ap (option_map (figure_end c.args.figure)) (sym (end_here c.loop-pair.last _ none) ∙ inv.last) in
    rw c.move_pen_to.ensures (does_put g.S.Sink clears_nothing ⊥ w _ _ (tt {0})
    (draws_end (stroke_lands c.args.figure) w (pair_spans c.args.points.now) c.end.result c.requires.drawing.mode last)
    (put_ends _ _ _ _ _ inv.putting (ap (map (figure_entry c.args.figure w.state.drawing)) none)))
