use Rattle.nap_list.proofs.{arith, inl, inr, sized_lines, sized_points}
use Rattle.nap_list.proofs.Batches.{lines_at, points_at, same_pen, text_pen}
use Rattle.nap_list.proofs.batch.Batch.pen_after.Goals as goal

pub item_at-requires : goal.item_at-requires
item_at-requires c =
    elim c.in-Points.is [
      | inl h ↦ omega (arith, c.requires, sized_points _ _ _ h.1)
      | inr h ↦ omega (arith, c.requires, sized_lines _ _ _ _ h.2)
    ]

pub returns-in-Points : goal.returns-in-Points
returns-in-Points c e es is =
    elim c.in-Points.is [
      | inl h ↦ same_pen (points_at _ h.1 c.item_at.ensures) is
      | inr h ↦ same_pen (lines_at _ h.2 c.item_at.ensures) is
    ]

pub returns-in-Text : goal.returns-in-Text
returns-in-Text c e es is = text_pen _ c.in-Text.is is
