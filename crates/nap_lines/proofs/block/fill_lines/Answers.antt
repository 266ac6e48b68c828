use Rattle.nap_lines.proofs.{add-one, ap, filled, length, patched, refl, ◌*◌, ◌∙◌}
use Rattle.nap_lines.proofs.block.fill_lines.Goals as goal

pub loop-i-init : goal.loop-i-init
unfolding filled
loop-i-init c = refl

pub loop-i-preserved : goal.loop-i-preserved
unfolding filled
loop-i-preserved c = rw add-one (c.copy_at.ensures ∙ ap (λ bytes. patched bytes (c.loop-i.i * length c.args.line.now) c.args.line.now) c.loop-i.invariant)
