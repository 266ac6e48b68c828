use Rattle.nap_c.proofs.{AnswerLemmas.answers_page, Made, ap, false, true}
use Rattle.nap_c.proofs.made.naplps_make.Goals as goal

pub returns-then-copy_if_fits : goal.returns-then-copy_if_fits
returns-then-copy_if_fits c =
    answers_page c.args.lines.now c.args.room.now c.copy_if_fits.new.room c.as_slice-text.result.now c.in-Ok.page c.copy_if_fits.result true c.made_answer-made.result c.in-Ok.ensures c.as_slice-text.ensures.value
    c.copy_if_fits.ensures c.if-copy_if_fits.true c.made_answer-made.ensures

pub returns-else-copy_if_fits : goal.returns-else-copy_if_fits
returns-else-copy_if_fits c =
    answers_page c.args.lines.now c.args.room.now c.copy_if_fits.new.room c.as_slice-text.result.now c.in-Ok.page c.copy_if_fits.result false _ c.in-Ok.ensures c.as_slice-text.ensures.value
    c.copy_if_fits.ensures c.if-copy_if_fits.false (ap (λ (made : Made). record made { status = 2 }) c.made_answer-made.ensures)
