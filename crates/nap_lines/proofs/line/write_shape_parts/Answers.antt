use Rattle.nap_lines.proofs.Common.{AppendsText, [], arith, entry_of_shape, line, subst, ◌++◌, ◌∷◌}
use Rattle.nap_lines.proofs.WritingLemmas.{appends_more, both_appended, drawn_line, text_kept}
use Rattle.nap_lines.proofs.line.write_shape_parts.Goals as goal

pub returns-in_err-write_points-clause-appends : goal.returns-in_err-write_points-clause-appends
returns-in_err-write_points-clause-appends c = grind (arith, text_kept)

pub returns-in_err-write_points-2-clause-appends : goal.returns-in_err-write_points-2-clause-appends
returns-in_err-write_points-2-clause-appends c =
    let from = both_appended _ _ c.in_ok-write_shape_name.ensures.appends c.in_ok-write_points.ensures.appends in
    text_kept _ _ _ (line (entry_of_shape c.args.shape.now) ++ 10 ∷ []) _ from.0 c.in_err-write_points-2.ensures.appends c.from_residual-in_err-write_points-2.ensures.0

pub returns-in_err-write_closing-clause-appends : goal.returns-in_err-write_closing-clause-appends
returns-in_err-write_closing-clause-appends c =
    let from = both_appended _ _ c.in_ok-write_shape_name.ensures.appends c.in_ok-write_points.ensures.appends in
    let others = both_appended _ _ from c.in_ok-write_points-2.ensures.appends in
    text_kept _ _ _ (line (entry_of_shape c.args.shape.now) ++ 10 ∷ []) _ others.0 c.in_err-write_closing.ensures.appends c.from_residual-in_err-write_closing.ensures.0

pub returns-clause-appends : goal.returns-clause-appends
returns-clause-appends c =
    let name = rw c.shape_name.ensures.bytes at c.in_ok-write_shape_name.ensures.appends in
    let from = both_appended _ _ name c.in_ok-write_points.ensures.appends in
    let others = both_appended _ _ from c.in_ok-write_points-2.ensures.appends in
    let closing = both_appended _ _ others c.in_ok-write_closing.ensures.appends in
    let ink = rw c.ink.ensures at c.write_ink.ensures.appends in
    subst (λ bytes. AppendsText c.args.text.now.items bytes c.write_ink.new.text.items c.write_ink.result) (drawn_line c.args.shape.now) (appends_more _ _ _ _ c.write_ink.result closing ink)
