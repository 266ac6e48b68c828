use Rattle.nap_command.proofs.FrontLemmas.{no_second, parts_of}
use Rattle.nap_command.proofs.batch.request.parse_line.Goals as goal

pub returns-in_err-budget_digits : goal.returns-in_err-budget_digits
returns-in_err-budget_digits c = rw (c.from_residual-in_err-budget_digits.ensures) (λ h is. no_second is c.in_ok-name.ensures c.in_err-budget_digits.ensures)

pub returns-in_err-question : goal.returns-in_err-question
returns-in_err-question c =
    rw (c.from_residual-in_err-question.ensures) (λ h is. c.in_err-question.ensures h.question (parts_of is c.in_ok-name.ensures c.in_ok-budget_digits.ensures).name_is)

pub returns-in_err-budget : goal.returns-in_err-budget
returns-in_err-budget c =
    rw (c.from_residual-in_err-budget.ensures) (λ h is. c.in_err-budget.ensures h.budget (parts_of is c.in_ok-name.ensures c.in_ok-budget_digits.ensures).budget)

pub returns-in_err-size : goal.returns-in_err-size
returns-in_err-size c =
    rw (c.from_residual-in_err-size.ensures) (λ h is. c.in_err-size.ensures h.size (parts_of is c.in_ok-name.ensures c.in_ok-budget_digits.ensures).size)
