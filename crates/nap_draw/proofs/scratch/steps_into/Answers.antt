use Rattle.nap_draw.proofs.{Execution.filling_end, Runs.bytes_none, Some, ap, ap₂, arith, moves, nat_tests, operand_words, points_reached, refl, sym, ℕ, ◌∙◌, ◌≡◌}
use Rattle.nap_draw.proofs.scratch.steps_into.Goals as goal

pub returns-then-is_empty-clause-fills : goal.returns-then-is_empty-clause-fills
unfolding points_reached
returns-then-is_empty-clause-fills c =
    let filling = c.in_ok-rest.ensures.ok in
    let three : c.args.domain.multi ≡ 3 = omega (arith, c.multi.ensures.value, c.if-multi-ne3.false) in
    ap₂ (λ p (k : ℕ). points_reached p (moves k (operand_words c.args.run.now))) (sym c.from_point-walk.ensures) three
    ∙ (filling_end filling (ap (points_reached _) (bytes_none 3 c.in_ok-rest.rest.now (grind (arith, nat_tests)))) ∙ ap Some (sym (filling.kept refl)))
