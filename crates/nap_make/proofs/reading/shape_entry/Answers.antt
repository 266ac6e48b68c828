use Rattle.nap_make.proofs.{Entry, FitsSort, HasFields, HasPoints, List, MatchResult, Value, arith, fields_text, kind_row, refl, subst, sym, ◌≡◌}
use Rattle.nap_make.proofs.LineLemmas.{few_points, points_left_fit, shape_left_fits, shape_line, shape_tells, shape_wrong}
use Rattle.nap_make.proofs.reading.shape_entry.Goals as goal

pub overflow_sub-result : goal.overflow_sub-result
overflow_sub-result c = points_left_fit c.args.kind c.requires.end c.read_points-count.ensures.1

pub returns-then-count-least : goal.returns-then-count-least
returns-then-count-least c =
    let (all, ended, counted, kept) = c.read_points-count.ensures in
    few_points c.args.kind c.requires.end ended c.requires.shape (omega (arith, counted, c.if-count-least.true, c.requires.least))

pub overflow_sub-result-in-Err : goal.overflow_sub-result-in-Err
overflow_sub-result-in-Err c = shape_left_fits c.args.kind c.requires.end c.read_points-count.ensures.1 c.in-Err.ensures

pub returns-in-Err : goal.returns-in-Err
returns-in-Err c =
    let (all, ended, counted, kept) = c.read_points-count.ensures in
    shape_wrong c.args.kind c.requires.end ended c.requires.shape (omega (arith, counted, c.if-count-least.false, c.requires.least)) c.row.ensures.row c.in-Err.ensures

pub returns-then-not-kept : goal.returns-then-not-kept
returns-then-not-kept c =
    let (all, ended, counted, kept) = c.read_points-count.ensures in
    let read = c.in_default.ensures in (
      record { kind = c.args.kind; rest = c.args.rest.now; shape = c.requires.shape; begins = refl },
      shape_line c.args.kind _ c.requires.shape ended (omega (arith, counted, c.if-count-least.false, c.requires.least)) (subst (λ r. FitsSort r c.read_row.new.values.items) c.row.ensures.row read.0) read.1,
    )

pub returns : goal.returns
returns c =
    let (all, ended, counted, kept) = c.read_points-count.ensures in
    let read = c.in_default.ensures in
    let kind = c.args.kind in
    let values = c.as_slice.result.now in
    let P : List Value → Type 0 = λ vs. FitsSort (kind_row kind) vs × (c.read_points-count.result.2.now ≡ fields_text vs) in
    let both = subst P (sym c.as_slice.ensures.value) (subst (λ r. FitsSort r c.read_row.new.values.items) c.row.ensures.row read.0, read.1) in
    shape_tells kind values _ c.requires.shape ended (omega (arith, counted, c.if-count-least.false, c.requires.least)) both.0 both.1
    (subst (λ points. MatchResult c.shape_of.result (HasFields kind points values) (λ fault. (e : Entry) → HasPoints kind → HasFields kind points values e → ⊥)) (kept c.if-not-kept.false) c.shape_of.ensures)
