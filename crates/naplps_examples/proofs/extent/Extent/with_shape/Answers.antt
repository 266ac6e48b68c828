use Rattle.std.proofs.Common.{◌∷◌, fold, ap, sym, ◌∙◌}
use Rattle.naplps_examples.specs.declared.extent.Extent.{Extent}
use Rattle.naplps_examples.specs.Extents.{with_point}
use Rattle.naplps_examples.proofs.ExtentLemmas.{shape_reaches}
use Rattle.naplps_examples.proofs.extent.Extent.with_shape.Goals as goal

pub returns : goal.returns
returns c =
    let shape = c.args.shape.now in
    c.with_all.ensures
    ∙ ap (λ (e : Extent). fold with_point e shape.others.now) c.with.ensures
    ∙ sym (shape_reaches c.args.self shape.kind shape.filled shape.drawing.now (shape.from ∷ shape.others.now))
