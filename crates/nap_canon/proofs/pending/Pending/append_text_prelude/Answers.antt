use Rattle.nap_canon.proofs.{Command, List, Some, Texts.both_commands, colour_prelude, pel_prelude, pen_prelude, prelude, refl, text_prelude, texture_prelude, ◌++◌}
use Rattle.nap_canon.proofs.pending.Pending.append_text_prelude.Goals as goal

pub returns-clause-appends : goal.returns-clause-appends
unfolding prelude pel_prelude texture_prelude
returns-clause-appends c =
    let d = c.args.old.now in
    let look = c.args.drawing.now in
    let colour : List Command = colour_prelude d.base d.colour (Some look.colour) in
    let text : List Command = text_prelude d.text (Some look.text) in
    let pen : List Command = pen_prelude d.pen (Some c.args.pen) in
    both_commands pen (colour ++ text) refl c.append_pen_prelude.ensures.appends
    (both_commands colour text refl c.append_colour_prelude.ensures.appends c.append_look_prelude.ensures.appends)
