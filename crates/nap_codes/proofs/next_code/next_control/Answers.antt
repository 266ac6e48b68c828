use Rattle.nap_codes.proofs.{control0_front, control0_rows, front, more_front, row_of}
use Rattle.nap_codes.proofs.next_code.next_control.Goals as goal

pub returns-then-control-eq27 : goal.returns-then-control-eq27
unfolding front control0_front more_front row_of control0_rows
returns-then-control-eq27 c = rw c.if-control-eq27.true c.after_escape.ensures
