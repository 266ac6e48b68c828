use Rattle.nap_draw.proofs.{LastChar, Ok, Option, Walks.last_is_code, Walks.prefix_some, Walks.prefix_typed, Walks.repeat_is, ap, arith, nat_tests, refl, repeated_chars, rule_result, some_put, with_last, ◌<◌, ◌∙◌, ◌≡◌}
use Rattle.nap_draw.proofs.Execution.{obeys_fully, obeys_put, obeys_quietly, obeys_stop}
use Rattle.nap_draw.proofs.work.Work.repeat.Goals as goal

pub returns-then-get-eq0 : goal.returns-then-get-eq0
unfolding repeated_chars
returns-then-get-eq0 g c =
    let w = c.args.self.now in
    let none : c.args.count ≡ 0 = grind (arith, nat_tests) in
    let last = ap (λ (o : Option LastChar). with_last o (λ last. Ok (rule_result w (repeated_chars w.state last c.args.count)))) c.in-Some.is in
    obeys_quietly (g.met.S.Sink.took_none _) (last ∙ rw none refl)

pub returns-then-count_copies : goal.returns-then-count_copies
returns-then-count_copies g c = grind (arith, obeys_fully)

pub characters-requires-clause-made : goal.characters-requires-clause-made
characters-requires-clause-made g c =
    let last = c.in-Some.last in
    let few : c.args.count < 64 = omega (arith, c.get.ensures.value, c.get.ensures.below) in
    prefix_typed last c.args.count c.from-2.result (c.from-2.ensures ∙ c.get-3.ensures.value) few (last_is_code c.args.self.now.state _ last c.requires c.in-Some.is)

pub returns-in_err-characters : goal.returns-in_err-characters
returns-in_err-characters g c =
    let w = c.args.self.now in
    let last = c.in-Some.last in
    let some : 0 < c.args.count = grind (arith, nat_tests) in
    let few : c.args.count < 64 = omega (arith, c.get.ensures.value, c.get.ensures.below) in
    let by = repeat_is last c.args.count c.from-2.result (c.from-2.ensures ∙ c.get-3.ensures.value) few w c.in-Some.is (last_is_code w.state _ last c.requires c.in-Some.is) in
    let entries = prefix_some last c.args.count c.from-2.result (c.from-2.ensures ∙ c.get-3.ensures.value) few w.state some in
    let kept = c.count_copies.ensures.kept c.if-count_copies.false in
    rw (c.in_err-characters.ensures.work, kept.0) (obeys_stop _ c.from_residual.ensures.1 (g.met.S.Sink.took_none _) g.met.S.Sink.wants_more by entries
    (some_put _ (Unit {0}) _ _ _ _ _ (rw (kept.0, kept.1) at c.in_err-characters.ensures.put)))

pub returns : goal.returns
returns g c = grind (arith, repeat_is, last_is_code, obeys_put)
