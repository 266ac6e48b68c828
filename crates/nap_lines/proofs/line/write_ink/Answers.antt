use Rattle.nap_lines.proofs.{IsUtf8-append, append_assoc, arith, common_steps}
use Rattle.nap_lines.proofs.line.write_ink.Goals as goal

pub returns-clause-appends : goal.returns-clause-appends
returns-clause-appends c = (
  grind (arith, common_steps, append_assoc),
  λ h. rw c.in_ok-extend_from_slice.ensures.items (IsUtf8-append _ _ h c.as_slice.ensures.utf8),
)
