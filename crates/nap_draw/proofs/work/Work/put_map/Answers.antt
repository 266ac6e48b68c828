use Rattle.nap_draw.proofs.{Execution.does_put, Execution.does_stop, Execution.sets_does, Ok, Results.known_colour, Results.new_colour, clears_nothing, refl, sym, ◌∙◌}
use Rattle.nap_draw.proofs.work.Work.put_map.Goals as goal

pub returns-then-has : goal.returns-then-has
returns-then-has g c =
    let known = known_colour c.args.self.now c.args.addr c.args.grb (sym c.has.ensures ∙ c.if-has.true) in
    sets_does g.S.Sink c.args.sink.now (g.met.S.Sink.took_none _) ⊥ _ c.args.self.now _ (Ok (tt {0})) known

pub returns-in_err-put : goal.returns-in_err-put
returns-in_err-put g c =
    does_stop g.S.Sink clears_nothing _ _ _ _ _ _ c.from_residual.ensures.1 (new_colour c.args.self.now c.args.addr c.args.grb _ (sym c.has.ensures ∙ c.if-has.false) refl) c.in_err-put.ensures

pub returns : goal.returns
returns g c = does_put g.S.Sink clears_nothing ⊥ c.args.self.now _ _ (tt {0}) (new_colour c.args.self.now c.args.addr c.args.grb _ (sym c.has.ensures ∙ c.if-has.false) c.set.ensures) c.in_ok-put.ensures
