use Rattle.nap_canon.proofs.{Ink, Preludes.prelude_of_ink, Some, Texts.both_commands, point_attributes, prelude, texture_prelude}
use Rattle.nap_canon.proofs.pending.Pending.append_other_ink_prelude.Goals as goal

pub returns-clause-appends : goal.returns-clause-appends
returns-clause-appends c =
    let d = c.args.old.now in
    let ink : Ink = record { pel = c.args.pel; colour = c.args.colour.now; texture = c.args.texture } in
    both_commands (prelude d (point_attributes ink.pel ink.colour)) (texture_prelude d.texture (Some ink.texture))
    (prelude_of_ink d ink) c.append_other_point_prelude.ensures.appends c.append_texture_prelude.ensures.appends
