use Rattle.nap_canon.proofs.{Base, Command, Texts.both_commands, [], base_commands, refl, same_base, unless, ◌∷◌}
use Rattle.nap_canon.proofs.pending.Pending.append_colour.Goals as goal

pub returns-in-Direct-clause-appends : goal.returns-in-Direct-clause-appends
returns-in-Direct-clause-appends c =
    rw c.in-Direct.is (both_commands (base_commands c.args.old.now.colour) (unless (same_base c.args.old.now.base (Base.Direct c.in-Direct.grb)) (Command.set_color c.in-Direct.grb ∷ [])) refl c.append_select_base.ensures.appends c.append_base.ensures.appends)
