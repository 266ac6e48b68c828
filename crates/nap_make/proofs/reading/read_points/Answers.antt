use Rattle.nap_make.proofs.{OnOk, Result, [], ap, arith, false≢true, inr, is_ok, length-append, sym, true, ◌++◌, ◌∙◌, ◌∷◌, ◌≡◌}
use Rattle.nap_make.proofs.LineLemmas.{no_point_first, no_space_behind, point_read}
use Rattle.nap_make.proofs.reading.read_points.Goals as goal

pub returns-in_default : goal.returns-in_default
returns-in_default c =
    let (all, has, counted, kept) = c.loop-count.invariant in
    (all, record { parts = has.parts; inside = has.inside; few = has.few; ends = inr (no_space_behind c.in_default.ensures) }, counted, kept)

pub returns-in_default-point : goal.returns-in_default-point
returns-in_default-point c =
    let (all, has, counted, kept) = c.loop-count.invariant in
    (all, record { parts = has.parts; inside = has.inside; few = has.few; ends = inr (no_point_first c.in-Some.ensures c.in_default-point.ensures) }, counted, kept)

-- what holds of a success
ok_holds : {A E P : Type 0} (r : Result A E) → is_ok r ≡ true → OnOk r P → P
ok_holds r ok is = grind arith

pub loop-count-preserved : goal.loop-count-preserved
loop-count-preserved c =
    let (all, has, counted, kept) = c.loop-count.invariant in
    let at = c.in-Some-point.at in
    let parts = c.in-Some.ensures.joins ∙ ap (λ xs. xs ++ 32 ∷ c.in-Some.more.now) c.in-Some-point.ensures.written in (
      all ++ at ∷ [],
      point_read at has (omega (arith, counted, c.loop-count-test.true)) (c.in-Some-point.ensures.fitting, parts),
      omega (arith, counted, length-append all (at ∷ [])),
      elim c.if-kept.branch [
        | goal.then-kept w ↦ λ is. w.points-is ∙ ok_holds w.push.result (sym w.is_ok-kept.ensures.value ∙ sym w.kept-is ∙ is) w.push.ensures.ok ∙ ap (λ xs. xs ++ at ∷ []) (kept w.if-kept.true)
        | goal.else-kept w ↦ λ is. absurd (false≢true (sym w.if-kept.false ∙ sym w.kept-is ∙ is))
      ],
    )
