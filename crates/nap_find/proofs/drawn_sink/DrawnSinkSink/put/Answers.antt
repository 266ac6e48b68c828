use Rattle.std.proofs.Common.{ap, ℕ, ◌∙◌}
use Rattle.nap_list.specs.State.{walk}
use Rattle.nap_find.specs.Shapes.{capped_sum}
use Rattle.nap_find.proofs.drawn_sink.DrawnSinkSink.put.Goals as goal

pub returns-clause-took : goal.returns-clause-took
unfolding walk
returns-clause-took c = record {
  entries = c.capped_sum-self.ensures;
  shapes = c.capped_sum-self-2.ensures ∙ ap (λ (n : ℕ). capped_sum c.args.self.now.shapes n) c.shapes_of_entry.ensures;
  state = c.after-self.ensures;
}
