use Rattle.nap_canon.proofs.{Command, Flag, List, Texts.both_commands, flag_commands, given_size_commands, named_size_commands, refl, text_prelude, ◌++◌}
use Rattle.nap_canon.proofs.pending.Pending.append_other_look_prelude.Goals as goal

pub returns-clause-appends : goal.returns-clause-appends
unfolding text_prelude
returns-clause-appends c =
    let old = c.args.old.now in
    let look = c.args.look.now in
    let named : List Command = named_size_commands old.size look.size in
    let reverse : List Command = flag_commands Flag.Reverse old.reverse look.reverse in
    let underline : List Command = flag_commands Flag.Underline old.underline look.underline in
    let wrap : List Command = flag_commands Flag.Wrap old.wrap look.wrap in
    let scroll : List Command = flag_commands Flag.Scroll old.scroll look.scroll in
    both_commands (given_size_commands old look look.size) (named ++ (reverse ++ (underline ++ (wrap ++ scroll)))) refl c.append_given_size.ensures.appends
    (both_commands named (reverse ++ (underline ++ (wrap ++ scroll))) refl c.append_named_size.ensures.appends
    (both_commands reverse (underline ++ (wrap ++ scroll)) refl c.append_flag.ensures.appends
    (both_commands underline (wrap ++ scroll) refl c.append_flag-2.ensures.appends
    (both_commands wrap scroll refl c.append_flag-3.ensures.appends c.append_flag-4.ensures.appends))))
