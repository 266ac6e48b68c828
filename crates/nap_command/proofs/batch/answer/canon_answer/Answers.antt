use Rattle.nap_command.proofs.{CommandLemmas.answers_accepted, CommandLemmas.answers_unspelled, IfOk-weaker, Question, refl, ◌∙◌}
use Rattle.nap_command.proofs.batch.answer.canon_answer.Goals as goal

pub returns-in-Ok : goal.returns-in-Ok
returns-in-Ok c =
    let k = rw c.in-Ok.is at c.in_ok-made.ensures in
    IfOk-weaker c.accepted_answer.result _ _ (λ a h. answers_accepted Question.Canon c.args.budget c.args.page.now a.line.items a.body c.in-Ok.found.count k.0.accepted k.1 (h.0, h.1)
    (h.2 ∙ (c.new.ensures ∙ k.0.text_is))) c.accepted_answer.ensures

pub returns-in-Err : goal.returns-in-Err
returns-in-Err c =
    let k = rw c.in-Err.is at c.in_ok-made.ensures in
    IfOk-weaker c.failure_answer.result _ _ (λ a h. answers_unspelled Question.Canon (λ h. cc) c.args.budget c.args.page.now refl c.in-Err.refusal k a.line.items a.body h)
    c.failure_answer.ensures
