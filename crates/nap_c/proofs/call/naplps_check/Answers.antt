use Rattle.nap_c.proofs.{AnswerLemmas.answers_uncounted, AnswerLemmas.refused_to_count, CountSink, ap, inl, refl}
use Rattle.nap_c.proofs.call.naplps_check.Goals as goal

pub returns-in-Err : goal.returns-in-Err
returns-in-Err c =
    let page = c.args.page.now in
    let r = c.in-Err.refusal in
    let b = c.in-Some.budget in
    let none = ap (λ (s : CountSink). s.count) c.new-2.ensures in
    let refused = refused_to_count _ c.new-2.result none (λ d wants. wants) (λ t. refl) b page r.fault r.place c.in-Err.ensures in
    let answered = answers_uncounted b page r.fault r.place c.refused_answer.result refused c.refused_answer.ensures in
    inl (c.in-Some.ensures.found.0 refl, rw c.in-Some.ensures.value at answered)
