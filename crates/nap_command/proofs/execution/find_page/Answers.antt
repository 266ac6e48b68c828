use Rattle.nap_command.proofs.{CommandLemmas.lines_refused, DeniesInput, FailsToMake, reading, subst, sym}
use Rattle.nap_command.proofs.execution.find_page.Goals as goal

pub returns-in-Err-Lines-clause-found : goal.returns-in-Err-Lines-clause-found
returns-in-Err-Lines-clause-found g c =
    let (p, read, denied) = c.in-Err-Lines.ensures.makes in
    let seen = reading g.I.Inlet c.args.input.now c.page_of_input.new.input in
    let lines = subst (λ fault. DeniesInput p seen fault) c.in-Err-Lines.field-0-is denied in
    (p, read, subst (λ failure. FailsToMake p seen failure) (sym c.lines_failure.ensures) (lines_refused p seen c.in-Err-Lines.fault lines))
