use Rattle.nap_command.proofs.{CommandLemmas.answers_accepted, CommandLemmas.answers_refused, HEAD_SPACE, IfOk-weaker, Question, ap, arith, drop, drop_at, length, length-append, lines, list_of, refl, ◌++◌, ◌∙◌}
use Rattle.nap_command.proofs.batch.answer.list_answer.Goals as goal

pub after_space-requires : goal.after_space-requires
after_space-requires c =
    let all = lines (list_of c.args.budget c.args.page.now) in
    let front = c.in_ok-text.text.items in
    let made = c.into_text.ensures ∙ (c.in-Ok.ensures.counts.1.text ∙ ap (λ s. s.text ++ all) c.over.ensures) in
    omega (arith, ap length made, length-append front all, c.in_ok-text.ensures)

pub returns-in-Ok : goal.returns-in-Ok
returns-in-Ok c =
    let budget = c.args.budget in
    let page = c.args.page.now in
    let all = lines (list_of budget page) in
    let front = c.in_ok-text.text.items in
    let k = c.in-Ok.ensures.counts in
    let made = c.into_text.ensures ∙ (k.1.text ∙ ap (λ s. s.text ++ all) c.over.ensures) in
    let body = c.after_space.ensures ∙ (ap (drop HEAD_SPACE) made ∙ drop_at front all HEAD_SPACE c.in_ok-text.ensures) in
    IfOk-weaker c.accepted_answer.result _ _ (λ a h. answers_accepted Question.List budget page a.line.items a.body c.in-Ok.count k.0 k.2 (h.0, h.1) (h.2 ∙ body))
    c.accepted_answer.ensures

pub returns-in-Err : goal.returns-in-Err
returns-in-Err c =
    let r = c.in-Err.refusal in
    let answers = answers_refused Question.List (λ h. cc) c.args.budget c.args.page.now refl _ c.over.result r.fault r.place c.in-Err.ensures (λ t. refl) in
    IfOk-weaker c.failure_answer.result _ _ (λ a h. answers a.line.items a.body h) c.failure_answer.ensures
