use Rattle.nap_c.proofs.{AnswerLemmas.copies_finds, ap, inr, refl, refused_answer, ◌∙◌}
use Rattle.nap_c.proofs.finds.naplps_find.Goals as goal

pub returns-in-Ok : goal.returns-in-Ok
returns-in-Ok c =
    copies_finds c.args.least c.args.bytes.now c.as_slice-text.result.now c.args.room.now c.copy_and_answer.new.room c.in-Ok.found.«open» c.found_answer-answer.result c.copy_and_answer.result
    (c.as_slice-text.ensures.value ∙ c.in-Ok.ensures.text) c.in-Ok.ensures.«open» c.found_answer-answer.ensures c.copy_and_answer.ensures

-- memory ran out for the finds
pub returns-in-Err : goal.returns-in-Err
returns-in-Err c = inr (c.refused_answer.ensures ∙ ap (λ r. refused_answer r 0) c.memory_refusal_at_end.ensures, refl)
