use Rattle.nap_command.proofs.{CommandLemmas.none_written_amiss, CommandLemmas.printed_partly, Err, TakesText, ap, false, subst, sym, true, ◌||◌, ◌∙◌, ◌≡◌}
use Rattle.nap_command.proofs.execution.print_found.Goals as goal

pub returns-in-Ok : goal.returns-in-Ok
returns-in-Ok g c =
    let write = c.in-Err-write_whole.ensures in
    let old = g.O.Outlet.taken c.args.output in
    let new = g.O.Outlet.taken c.write_whole.new.output in
    let fault = c.in-Err-write_whole.fault in
    let takes = subst (λ text. TakesText old new text (Err fault)) c.as_slice.ensures.value write.takes in
    let failed = write.failed ∙ ap (λ x. x || true) c.requires in
    record {
      ends = rw (c.in-Ok.is) (printed_partly _ _ old new _ fault takes failed);
      flushes = write.flushes (none_written_amiss _ _ (g.met.O.Outlet.fails_by_write c.args.output) c.requires);
      sends = λ works. let bad : false ≡ true = sym works ∙ failed in cc;
    }

pub returns-clause-ends : goal.returns-clause-ends
returns-clause-ends g c =
    let write = c.in-Err-write_whole-2.ensures in
    rw (c.in-Err.is) (printed_partly _ _ _ _ _ c.in-Err-write_whole-2.fault write.takes (write.failed ∙ ap (λ x. x || true) c.requires))
