use Rattle.nap_c.proofs.{AnswerLemmas.answers_text, LacksForText, inl, list_of, refl, text1}
use Rattle.nap_c.proofs.call.naplps_canon_form1.Goals as goal

pub returns : goal.returns
returns c =
    let b = c.in-Some.budget in
    let page = c.args.page.now in
    let answered = answers_text (λ text. text.items) b page (LacksForText b page) (text1 (list_of b page)) c.args.room.now c.answer_text.new.room c.answer_text.result c.form1_text.result c.form1_text.ensures c.answer_text.ensures in
    inl (c.in-Some.ensures.found.0 refl, rw c.in-Some.ensures.value at answered)
