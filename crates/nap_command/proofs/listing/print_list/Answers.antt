use Rattle.nap_command.proofs.{CommandLemmas.ends_printing, CommandLemmas.nothing_printed, Err, Fails, Finds, arith, count_of, length, reading, subst, ◌≡◌}
use Rattle.nap_command.specs.Commands.{EndsPrinting}
use Rattle.nap_command.proofs.listing.print_list.Goals as goal

pub returns-in-Ok-clause-ends : goal.returns-in-Ok-clause-ends
returns-in-Ok-clause-ends g c =
    let (p, read, (whole, streams)) = c.in-Ok.ensures.read in
    let (q, sent, ends) = c.print_lines.ensures.ends in
    (p, q, read, sent, ends p (reading g.I.Inlet c.args.input.now c.read_page.new.input) whole streams)

pub returns-in-Err-clause-ends : goal.returns-in-Err-clause-ends
returns-in-Err-clause-ends g c =
    let seen = reading g.I.Inlet c.args.input.now c.read_page.new.input in
    let (p, read, failing) = c.in-Err.ensures.read in
    let (q, sent, printed) = c.print_found.ensures.ends in
    let finds = Finds c.args.command.now p seen in
    let fails = Fails c.args.command.now p seen in
    let b = g.O.Outlet.failed c.print_found.result.0 in
    let ended = c.print_found.result.1 in
    let none = nothing_printed q b (Err c.in-Err.failure) ended printed in
    let same : length q ≡ count_of q = rw none (omega arith) in
    (p, q, read, sent, subst (λ size. EndsPrinting finds fails size q b ended) same (ends_printing finds fails (Err c.in-Err.failure) q b ended failing printed))
