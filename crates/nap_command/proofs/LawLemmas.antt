use Rattle.nap_command.proofs.{Action, AnswersAreThoseOfCommands, AnswersPage, AsCheck, AsCommand, CodeBounds.entries_are_bounded, CodeBounds.text_is_bounded, Fault, IsAnswer, IsStreamRefusal, LineLemmas.places_are_exact, List, PrintsBy, Question, Verdict, [], inl, inr, list_of, refl, refusal, refused_body_of, text, ℕ, ◌∙◌, ◌≡◌, ◌≢◌}
use Rattle.nap_command.specs.Answers.{AcceptsWith, LacksWith, RefusesWith, page_command}

-- The answers and the commands.

module _ (q : Question) (act : Action) (budget : ℕ) (p line body : List ℕ) where
  own_refusal : (h : RefusesWith q budget p line body) → IsStreamRefusal (page_command act budget) p h.refusal
  own_refusal h = record { refused = λ _. h.refused; memory = λ is. absurd (h.own is) }

  own_lack : (h : LacksWith q budget p line body) → IsStreamRefusal (page_command act budget) p (refusal Fault.Memory h.place)
  own_lack h = record { refused = λ no. absurd (no refl); memory = λ _. h.breaks }

  checks_refused : (h : RefusesWith q budget p line body) → PrintsBy Action.Check (page_command Action.Check budget) p line Verdict.Refused
  checks_refused h = (h.refusal, record { refused = λ _. h.refused; memory = λ is. absurd (h.own is) }, λ is. absurd (h.own is), h.line_is)

  -- the answer to a question that isn't `check`
  as_command : act ≢ Action.Check → refused_body_of q budget p ≡ [] → (AcceptsWith q budget p line body → PrintsBy act (page_command act budget) p body Verdict.Accepted) →
      AnswersPage q budget p line body → AsCommand act budget p line body
  as_command other none prints (inl h) = inl (record { line_is = (h.accepted, h.line_is); body_is = prints h })
  as_command other none prints (inr (inl h)) =
      inr (record { r = h.refusal; denied = (other, own_refusal h); line_is = h.line_is; checked = λ _. checks_refused h; body_is = h.body_is ∙ none })
  as_command other none prints (inr (inr h)) =
      inr (record { r = refusal Fault.Memory h.place; denied = (other, own_lack h); line_is = h.line_is; checked = λ no. absurd (no refl); body_is = h.body_is })

as_check : (budget : ℕ) (p line body : List ℕ) → IsAnswer Question.Check budget p line body → AsCheck budget p line body
as_check budget p line body (inl h) = record { v = Verdict.Accepted; line_is = (h.accepted, h.line_is); body_is = h.body_is }
as_check budget p line body (inr (inl h)) = record { v = Verdict.Refused; line_is = checks_refused Question.Check Action.Check budget p line body h; body_is = h.body_is }
as_check budget p line body (inr (inr h)) = record {
  v = Verdict.Refused;
  line_is = (refusal Fault.Memory h.place, own_lack Question.Check Action.Check budget p line body h, λ _. h.counting refl, h.line_is);
  body_is = h.body_is;
}

pub answers_are_those_of_commands : AnswersAreThoseOfCommands
answers_are_those_of_commands Action.Check budget p line body = as_check budget p line body
answers_are_those_of_commands Action.List budget p line body = as_command Question.List Action.List budget p line body (λ is. cc) refl (λ h. (h.accepted, h.body_is))
answers_are_those_of_commands Action.Canon budget p line body =
    as_command Question.Canon Action.Canon budget p line body (λ is. cc) refl (λ h. (text (list_of budget p), record { accepted = h.accepted; text_is = refl }, h.body_is))

-- What the laws of requests and answers cite.
pub ruleset laws = (answers_are_those_of_commands, entries_are_bounded, places_are_exact, text_is_bounded)
