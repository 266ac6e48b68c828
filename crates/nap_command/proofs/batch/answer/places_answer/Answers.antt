use Rattle.nap_command.proofs.{CommandLemmas.answers_placed, IsAnswer, Question, subst, sym}
use Rattle.nap_command.proofs.batch.answer.places_answer.Goals as goal

pub returns : goal.returns
returns c =
    let placed = c.in_ok-placed.placed in
    let line = c.in_ok-line.line.items in
    let answers = answers_placed c.args.budget c.args.page.now placed.text.items placed.ended line c.in_ok-placed.ensures c.in_ok-line.ensures in
    subst (λ body. IsAnswer Question.Places c.args.budget c.args.page.now line body) (sym c.new.ensures) answers
