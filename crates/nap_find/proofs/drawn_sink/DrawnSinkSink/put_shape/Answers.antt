use Rattle.std.proofs.Common.{[], ap, refl, sym, ℕ, ◌∙◌, ◌∷◌}
use Rattle.nap_list.specs.Shapes.{entry_of_shape, shape_points}
use Rattle.nap_list.specs.State.{ink_of, walk}
use Rattle.nap_find.specs.Shapes.{CountsDrawn, capped_sum}
use Rattle.nap_find.specs.ShapeLaws.{one_shape}
use Rattle.nap_find.proofs.drawn_sink.DrawnSinkSink.put_shape.Goals as goal

pub returns : goal.returns
unfolding walk
returns c =
    let shape = c.args.shape.now in
    let took : CountsDrawn c.args.self.now (entry_of_shape shape ∷ []) _ = record {
      entries = c.capped_sum-self.ensures;
      shapes = c.capped_sum-self-2.ensures ∙ ap (λ (n : ℕ). capped_sum c.args.self.now.shapes n) (sym (one_shape shape.kind shape.filled (shape_points shape) (ink_of shape.drawing.now)));
      state = c.after_shape-self.ensures;
    } in
    record { took = took; state = took.state; works = λ works. refl; none = λ set. cc }
