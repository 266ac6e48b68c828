use Rattle.nap_list.proofs.{CountsEntries, Err, [], arith, count_sink_model, counts_none, entry_of_shape, refl, walk, wanting_put, ◌∷◌}
use Rattle.nap_list.specs.declared.sink.SinkFault.TheVariants.{Memory}
use Rattle.nap_list.proofs.count_sink.CountSinkSink.put_shape.Goals as goal

pub returns-in_default : goal.returns-in_default
returns-in_default c = wanting_put count_sink_model c.args.self.now (entry_of_shape c.args.shape.now) (Err Memory) refl (counts_none c.args.self.now) refl (omega (arith, c.checked_add.ensures))

pub returns : goal.returns
unfolding walk
returns c =
    let took : CountsEntries c.args.self.now (entry_of_shape c.args.shape.now ∷ []) _ = record { count = omega (arith, c.in-Some.ensures); state = c.after_shape-self.ensures } in
    record { took = took; state = took.state; works = λ works. refl; none = λ set. cc }
