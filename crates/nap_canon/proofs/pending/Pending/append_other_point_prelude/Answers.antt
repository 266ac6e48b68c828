use Rattle.nap_canon.proofs.{Preludes.prelude_of_point, Some, Texts.both_commands, colour_prelude, pel_prelude, prelude, sym}
use Rattle.nap_canon.proofs.pending.Pending.append_other_point_prelude.Goals as goal

pub returns-clause-appends : goal.returns-clause-appends
returns-clause-appends c =
    let d = c.args.old.now in
    let colour = c.args.colour.now in
    both_commands (pel_prelude d.pel (Some c.args.pel)) (colour_prelude d.base d.colour (Some colour))
    (sym (prelude_of_point d c.args.pel colour)) c.append_pel_prelude.ensures.appends c.append_colour_prelude.ensures.appends
