use Rattle.nap_make.proofs.{FitsSort, LineLemmas.left_fits, LineLemmas.plain_tells, LineLemmas.plain_wrong, List, Value, fields_text, kind_row, subst, sym, ◌≡◌}
use Rattle.nap_make.proofs.reading.plain_entry.Goals as goal

pub overflow_sub-result : goal.overflow_sub-result
overflow_sub-result c = left_fits c.args.kind c.requires.end c.in-Err.ensures

pub returns-in-Ok : goal.returns-in-Ok
returns-in-Ok c =
    let read = c.in-Ok.ensures in
    let P : List Value → Type 0 = λ vs. FitsSort (kind_row c.args.kind) vs × (c.args.rest.now ≡ fields_text vs) in
    let both = subst P (sym c.as_slice.ensures.value) (subst (λ r. FitsSort r c.read_row.new.values.items) c.row.ensures.row read.0, read.1) in
    plain_tells c.args.kind c.as_slice.result.now _ c.requires.plain both.0 both.1 c.entry_of.ensures

pub returns-in-Err : goal.returns-in-Err
returns-in-Err c = plain_wrong c.args.kind c.requires.end c.in-Err.ensures c.requires.plain c.requires.chosen c.row.ensures.row
