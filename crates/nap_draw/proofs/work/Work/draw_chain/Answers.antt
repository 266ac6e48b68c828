use Rattle.nap_draw.proofs.{Fits.all_fit, None, Walks.draws_end, Walks.rect_lands, ap, arith, clears_nothing, corner, drop_all, map, one_fits, one_goes, one_stops, option_map, put_begins, put_ends, rect_on, rect_spans, refl, sym, ◌∙◌}
use Rattle.nap_draw.proofs.Execution.{does_put, does_stop, drop_at, end_here, linked_end, linked_last, linked_left}
use Rattle.nap_draw.proofs.work.Work.draw_chain.Goals as goal

pub loop-to-init : goal.loop-to-init
loop-to-init g c = record { last = refl; putting = put_begins _ _ _ (g.met.S.Sink.took_none _) }

pub put-requires : goal.put-requires
put-requires g c =
    let left = drop_at c.args.points.now c.loop-to.to-index c.to-item.result (omega arith) c.to-item.is in
    one_fits _ _ _ _ _ _ _ c.loop-to.invariant.putting (linked_left _ c.args.self.now.state.drawing _ _ _ _ _ left c.entry.ensures)
    (all_fit (rect_lands c.args.filled) c.args.self.now.state None (rect_spans c.args.from c.args.points.now) _ c.requires).0

pub loop-to-preserved : goal.loop-to-preserved
loop-to-preserved g c =
    let put = c.in_ok-put.ensures in
    let left = drop_at c.args.points.now c.loop-to.to-index c.to-item.result (omega arith) c.to-item.is in
    rw c.corner-at.ensures (record {
      last = linked_last _ _ _ _ _ left ∙ c.loop-to.invariant.last;
      putting = one_goes _ _ _ _ _ c.loop-to.invariant.putting g.met.S.Sink.took_more _ c.entry.result _
          (linked_left _ c.args.self.now.state.drawing _ _ _ _ _ left c.entry.ensures) put.took put.after put.only_write put.refuses;
    })

pub returns-in_err-put : goal.returns-in_err-put
returns-in_err-put g c =
    let left = drop_at c.args.points.now c.loop-to.to-index c.to-item.result (omega arith) c.to-item.is in
    does_stop g.S.Sink clears_nothing _ _ _ _ _ _ c.from_residual.ensures.1 refl (one_stops _ (Unit {0}) _ _ _ _ c.loop-to.invariant.putting (g.met.S.Sink.took_none _) g.met.S.Sink.took_more g.met.S.Sink.took_broke g.met.S.Sink.wants_more _ c.entry.result _ _
    (linked_left _ c.args.self.now.state.drawing _ _ _ _ _ left c.entry.ensures) (grind arith))

pub returns : goal.returns
returns g c =
    let w = c.args.self.now in
    let inv = c.loop-to.invariant in
    let none = linked_end c.loop-to.at _ (drop_all c.loop-to.to-index c.args.points.now (omega arith)) in
    let last = c.end.ensures ∙ ap (option_map (λ s. corner s.from s.to)) (sym (end_here c.loop-to.last _ none) ∙ inv.last) in
    rw c.move_pen_to.ensures (does_put g.S.Sink clears_nothing ⊥ w _ _ (tt {0})
    (draws_end (rect_lands c.args.filled) w (rect_spans c.args.from c.args.points.now) c.end.result c.requires.drawing.mode last)
    (put_ends _ _ _ _ _ inv.putting (ap (map (rect_on c.args.filled w.state.drawing)) none)))
