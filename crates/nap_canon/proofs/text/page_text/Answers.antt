use Rattle.nap_canon.proofs.{RefusesPage, Sinks.refuses_page, Sinks.text_written, arith, subst, sym}
use Rattle.nap_canon.proofs.text.page_text.Goals as goal

pub returns-in-Ok : goal.returns-in-Ok
returns-in-Ok c = grind (arith, text_written)

pub returns-in-Err : goal.returns-in-Err
returns-in-Err c =
    let r = c.in-Err.refusal in
    let budget = c.args.budget in
    let page = c.args.page.now in
    subst (RefusesPage budget page) (sym c.refusal_of_text.ensures) (refuses_page _ c.new-sink.result budget page r.fault r.place c.in-Err.ensures)
