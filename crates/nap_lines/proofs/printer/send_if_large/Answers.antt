use Rattle.nap_lines.proofs.{PrintLemmas.sent_all, PrintLemmas.sent_some, passes_none, refl}
use Rattle.nap_lines.proofs.printer.send_if_large.Goals as goal

pub returns-then-len-lt-SEND_SIZE-clause-sent : goal.returns-then-len-lt-SEND_SIZE-clause-sent
returns-then-len-lt-SEND_SIZE-clause-sent g c = (passes_none _ _, refl)

pub returns-in-Ok-clause-sent : goal.returns-in-Ok-clause-sent
returns-in-Ok-clause-sent g c = sent_all _ _ c.as_slice.ensures.value c.clear.ensures.items c.in-Ok.ensures.0

pub returns-in-Err-clause-sent : goal.returns-in-Err-clause-sent
returns-in-Err-clause-sent g c = sent_some g.O.Outlet _ _ _ _ _ c.as_slice.ensures.value c.in-Err.ensures _
