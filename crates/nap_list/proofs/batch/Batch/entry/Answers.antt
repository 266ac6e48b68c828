use Rattle.nap_list.proofs.{Batches.text_at, arith}
use Rattle.nap_list.proofs.batch.Batch.entry.Goals as goal

pub returns-after-index-eq0 : goal.returns-after-index-eq0
returns-after-index-eq0 c =
    rw (c.text_entry.ensures) (elim c.if-index-eq0.branch [
      | goal.then-index-eq0 w ↦ text_at c.in-Text.is (λ none. w.pen-is) (λ some. absurd (omega (arith, some, w.if-index-eq0.true))) c.item_at-in-Text.ensures
      | goal.else-index-eq0 w ↦ text_at c.in-Text.is (λ none. absurd (omega (arith, none, w.if-index-eq0.false))) (λ some. w.pen-is) c.item_at-in-Text.ensures
    ])
