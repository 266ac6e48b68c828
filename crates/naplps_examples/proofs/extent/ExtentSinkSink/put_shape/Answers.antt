use Rattle.std.proofs.Common.{[], ◌∷◌, refl}
use Rattle.naplps.specs.Shapes.{entry_of_shape}
use Rattle.naplps.specs.State.{walk}
use Rattle.naplps_examples.specs.Extents.{TookEntries}
use Rattle.naplps_examples.proofs.extent.ExtentSinkSink.put_shape.Goals as goal

pub returns : goal.returns
unfolding walk
returns c =
    let took : TookEntries c.args.self.now (entry_of_shape c.args.shape.now ∷ []) _ = record { extent = c.with_shape-self.ensures; state = c.step_shape.ensures } in
    record { took = took; state = took.state; works = λ works. refl; none = λ set. (let bad : ⊥ = cc in absurd bad) }
