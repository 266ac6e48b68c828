-- The library and `batch` answer alike.

use Rattle.nap_c.proofs.{Answer, IsAccepted, List, None, Offers, Refusal, Some, accepted_answer, arith, inl, inr, length, means, refused_answer, subst, sym, ℕ, ◌∙◌, ◌≡◌, ◌≤◌}
use Rattle.nap_reader.specs.Budgets.{most_budget}
use Rattle.nap_find.specs.Rows.{open_of}
use Rattle.nap_command.specs.{declared.batch.request.Question.Question, Finding.AnswersFinds, Finding.asked_for, Answers.AnswersPage, Answers.accepted_body_of, Answers.refused_body_of}
use Rattle.nap_c.specs.Answers.{AgreeOnCount, AgreeOnFinds, AgreeOnText, AnswersCall, AnswersCount, AnswersNoBudget, CopiesFinds, LibraryAnswersAsBatch, found_answer}

module _ (budget : ℕ) (p : List ℕ) where
  -- no page is both accepted and refused
  not_both : (r : Refusal) → IsAccepted budget p → (means budget p).refusal ≡ Some r → ⊥
  not_both r accepted refused = let bad : Some r ≡ None = sym refused ∙ accepted in cc

  -- a page has one refusal
  one_refusal : (r s : Refusal) → (means budget p).refusal ≡ Some r → (means budget p).refusal ≡ Some s → r ≡ s
  one_refusal r s first second = let same : Some r ≡ Some s = sym first ∙ second in cc

  -- there is such a budget
  not_denied : (a : Answer) → budget ≤ most_budget → AnswersNoBudget budget a → ⊥
  not_denied a most h = absurd (omega (arith, most, h.above))

  module _ (line body old new : List ℕ) (a : Answer) (most : budget ≤ most_budget) where
    count_alike : AnswersPage Question.Check budget p line body → AnswersCount budget p a → AgreeOnCount line a
    count_alike (inl h) (inl (_, inl k)) = inl (record { count = _; line_is = h.line_is; answer = k.answer })
    count_alike (inl h) (inl (_, inr (inl k))) = absurd (not_both k.refusal h.accepted k.refused)
    count_alike (inl h) (inl (_, inr (inr k))) = inr (inr (record { place = k.place; answer = inr k.answer }))
    count_alike (inr (inl h)) (inl (_, inl k)) = absurd (not_both h.refusal k.accepted h.refused)
    count_alike (inr (inl h)) (inl (_, inr (inl k))) =
        let same = one_refusal k.refusal h.refusal k.refused h.refused in
        inr (inl (record { refused = h.refusal; line_is = h.line_is; answer = subst (λ r. a ≡ refused_answer r 0) same k.answer }))
    count_alike (inr (inl h)) (inl (_, inr (inr k))) = inr (inr (record { place = k.place; answer = inr k.answer }))
    count_alike (inr (inr h)) _ = inr (inr (record { place = h.place; answer = inl h.line_is }))
    count_alike _ (inr denied) = absurd (not_denied a most denied)

    text_alike : (q : Question) (CanLack : ℕ → Type 0) → AnswersPage q budget p line body → AnswersCall budget p CanLack (accepted_body_of q budget p) (refused_body_of q budget p) old new a → AgreeOnText line body old new a
    text_alike _ _ (inl h) (inl (_, inl k)) =
        inl (record { count = _; line_is = h.line_is; answer = subst (λ text. Offers text old new (accepted_answer (length text)) a) (sym h.body_is) k.offers })
    text_alike _ _ (inl h) (inl (_, inr (inl k))) = absurd (not_both k.refusal h.accepted k.refused)
    text_alike _ _ (inl h) (inl (_, inr (inr k))) = inr (inr (record { place = k.0.place; answer = inr k.0.answer }))
    text_alike _ _ (inr (inl h)) (inl (_, inl k)) = absurd (not_both h.refusal k.accepted h.refused)
    text_alike _ _ (inr (inl h)) (inl (_, inr (inl k))) =
        let same = one_refusal k.refusal h.refusal k.refused h.refused in
        let offers = subst (λ text. Offers text old new (refused_answer k.refusal (length text)) a) (sym h.body_is) k.offers in
        inr (inl (record { refused = h.refusal; line_is = h.line_is; answer = subst (λ r. Offers body old new (refused_answer r (length body)) a) same offers }))
    text_alike _ _ (inr (inl h)) (inl (_, inr (inr k))) = inr (inr (record { place = k.0.place; answer = inr k.0.answer }))
    text_alike _ _ (inr (inr h)) _ = inr (inr (record { place = h.place; answer = inl h.line_is }))
    text_alike _ _ _ (inr (denied, same)) = absurd (not_denied a most denied)

finds_alike : (least : ℕ) (p line body old new : List ℕ) (a : Answer) → AnswersFinds least p line body → CopiesFinds least p old new a → AgreeOnFinds body old new a
finds_alike least p line body old new a is (inl offers) =
    let place = open_of (asked_for least) p in
    (place, inl (subst (λ text. Offers text old new (found_answer place (length text)) a) (sym is.body_is) offers))
finds_alike least p line body old new a is (inr lacks) = (length p, inr lacks.0)

pub library_answers_as_batch : LibraryAnswersAsBatch
library_answers_as_batch Question.Check budget p line body old new a most = count_alike budget p line body old new a most
library_answers_as_batch Question.List budget p line body old new a most = text_alike budget p line body old new a most Question.List _
library_answers_as_batch Question.Canon budget p line body old new a most = text_alike budget p line body old new a most Question.Canon _
library_answers_as_batch Question.Places budget p line body old new a most = text_alike budget p line body old new a most Question.Places _
library_answers_as_batch Question.Make _ _ _ _ _ _ _ _ = λ _ given. absurd given
library_answers_as_batch Question.Find least p line body old new a most = finds_alike least p line body old new a
