use Rattle.std.proofs.Common.{ap, arith, length, refl, take, ℕ, ◌∙◌}
use Rattle.std.proofs.lemmas.List.{take_all}
use Rattle.nap_list.specs.{Batches.batch_entries, State.walk}
use Rattle.nap_find.specs.Shapes.{CountsDrawn, capped_sum}
use Rattle.nap_find.proofs.drawn_sink.DrawnSinkSink.put_batch.Goals as goal

pub returns : goal.returns
returns c =
    let list = batch_entries c.args.batch.now in
    let all = take_all (length list) list (omega arith) in
    let took : CountsDrawn c.args.self.now list _ = record {
      entries = c.capped_sum-self.ensures ∙ ap (capped_sum c.args.self.now.entries) c.len.ensures;
      shapes = c.capped_sum-self-2.ensures ∙ ap (capped_sum c.args.self.now.shapes) c.shapes_of_batch.ensures;
      state = c.after_first-self.ensures ∙ ap (λ (n : ℕ). walk c.args.self.now.state.state (take n list)) c.len-2.ensures ∙ ap (walk c.args.self.now.state.state) all;
    } in
    record { took = took; state = took.state; works = λ works. refl; none = λ set. cc }
