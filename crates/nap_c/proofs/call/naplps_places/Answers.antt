use Rattle.nap_c.proofs.{AnswerLemmas.answers_places, ap, inl, inr, refl, refused_answer, ◌∙◌}
use Rattle.nap_c.proofs.call.naplps_places.Goals as goal

pub returns-in-Ok : goal.returns-in-Ok
returns-in-Ok c =
    let page = c.args.page.now in
    let placed = c.in-Ok.placed in
    let answered = answers_places c.in-Some.budget page placed.text.items c.args.room.now c.answer_placed.new.room c.answer_placed.result placed.ended c.in-Ok.ensures c.answer_placed.ensures in
    inl (c.in-Some.ensures.found.0 refl, rw c.in-Some.ensures.value at answered)

-- memory ran out for the places
pub returns-in-Err : goal.returns-in-Err
returns-in-Err c =
    let page = c.args.page.now in
    let says = c.refused_answer.ensures ∙ ap (λ r. refused_answer r 0) c.memory_refusal_at_end.ensures in
    inl (c.in-Some.ensures.found.0 refl, inr (inr (record { place = _; wanting = inr refl; answer = says }, refl)))
