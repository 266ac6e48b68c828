use Rattle.nap_values.proofs.{IsInside, MotionLemmas.x_again, MotionLemmas.x_value, Some, ap, arith, coarse_part, coarse_point, coarse_words, operand_words, subst, sym, take, x_in, ◌%◌, ◌+◌, ◌∙◌, ◌≡◌}
use Rattle.nap_values.proofs.CoarseLemmas.{block_words, clear_before, course_moves, inside_of, words_fit}
use Rattle.nap_values.proofs.walk.CoarseWalk.advance.Goals as goal

pub coarse_part-at-requires : goal.coarse_part-at-requires
coarse_part-at-requires c = x_again _ _ (omega arith) c.x_sum.ensures

pub invariant_of-self : goal.invariant_of-self
invariant_of-self c =
    let sum = x_value _ _ (omega arith) c.x_sum.ensures in
    let value = x_value _ _ (omega arith) c.coarse_part-at.ensures in
    let again = x_again _ _ (omega arith) c.coarse_part-at.ensures in (
      (again, omega arith, omega arith),
      λ clear. inside_of c.coarse_part-at.result (omega arith) again c.self.inside.seen (rw c.get.ensures.value at clear),
    )

pub returns-clause-inside : goal.returns-clause-inside
returns-clause-inside c = λ clear. rw (← c.self.view_is) (clear_before _ _ clear)

pub returns-clause-point : goal.returns-clause-point
returns-clause-point c = λ clear.
    let sum = x_value _ _ (omega arith) c.x_sum.ensures in
    let value = x_value _ _ (omega arith) c.coarse_part-at.ensures in
    let again = x_again _ _ (omega arith) c.coarse_part-at.ensures in
    let words = operand_words (take 3 c.args.block.now) in
    let (len, fit) = block_words c.args.block.now c.told-block in
    let step = x_value _ _ (words_fit words len fit) c.coarse.ensures in
    let old = c.self.invariant.0 in
    let inside = c.self.invariant.1 (clear_before c.self.inside.seen c.get.result clear) in
    let after : x_in c.coarse_part-at.result ≡ coarse_part ((x_in c.self.inside.at + coarse_words words) % 16777216) =
    value ∙ ap coarse_part (sum ∙ ap (λ m. (x_in c.self.inside.at + m) % 16777216) step) in
    let still = inside_of c.coarse_part-at.result (omega arith) again c.self.inside.seen (rw c.get.ensures.value at clear) in
    rw (← c.self.view_is) (
    course_moves (x_in c.self.inside.at) c.self.inside.start words old.1 old.2 inside len fit (subst IsInside after still)
    ∙ ap (λ n. Some (coarse_point n c.self.inside.start)) (sym after)
    )
