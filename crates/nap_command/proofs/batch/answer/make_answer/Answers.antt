use Rattle.nap_command.proofs.{CommandLemmas.answers_made, ap, count_line, ◌∙◌}
use Rattle.nap_command.proofs.batch.answer.make_answer.Goals as goal

pub returns-in_ok-count_line-in-Ok : goal.returns-in_ok-count_line-in-Ok
returns-in_ok-count_line-in-Ok c =
    let page = c.in-Ok.ensures in
    answers_made c.args.lines.now _ c.in-Ok.page.text.items c.new.result page.0 c.new.ensures (c.in_ok-count_line-in-Ok.ensures ∙ ap count_line page.1)
