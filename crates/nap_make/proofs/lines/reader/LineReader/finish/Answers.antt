use Rattle.nap_make.proofs.{FeedLemmas.finishes_cut, FeedLemmas.finishes_list, IsUnendedLine, None, Option, Some, [], ap, arith, eqb-false, eqb-true, false, false≢true, is_some, length, Common.lines, nil_from_length, refl, subst, sym, ◌++◌, ◌∙◌, ◌≡◌}
use Rattle.nap_make.proofs.lines.reader.LineReader.finish.Goals as goal

pub returns-then-not-is_empty : goal.returns-then-not-is_empty
returns-then-not-is_empty g c s p has_read =
    let part = c.args.self.now.part.items in
    let same = c.as_slice-part.ensures.value in
    finishes_cut has_read.holds part c.unended_line_fault.result has_read.parts c.requires.whole
    (omega (arith, eqb-false _ 0 (sym c.is_empty.ensures ∙ c.if-not-is_empty.true), ap length same))
    (subst (λ xs. IsUnendedLine has_read.entries xs c.unended_line_fault.result) same (c.unended_line_fault.ensures s has_read.entries has_read.holds))

none_there : {A : Type 0} (o : Option A) → is_some o ≡ false → o ≡ None
none_there None h = refl
none_there (Some x) h = absurd (false≢true (sym h))

pub returns : goal.returns
returns g c s p has_read =
    let part = c.args.self.now.part.items in
    let same = c.as_slice-part.ensures.value in
    let short : length part ≡ 0 = omega (arith, eqb-true _ 0 (sym c.is_empty.ensures ∙ c.if-not-is_empty.false), ap length same) in
    let empty : part ≡ [] = nil_from_length part short in
    finishes_list has_read.holds (has_read.parts ∙ ap (lines has_read.entries ++◌) empty)
    (none_there c.args.self.now.maker.state.definition (sym c.is_some.ensures ∙ c.if-is_some.false))
