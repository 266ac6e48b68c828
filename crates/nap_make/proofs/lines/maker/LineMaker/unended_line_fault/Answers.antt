use Rattle.nap_make.proofs.{Err, FeedLemmas.column_after, TellsLine, arith, subst}
use Rattle.nap_make.proofs.lines.maker.LineMaker.unended_line_fault.Goals as goal

pub returns-in_default : goal.returns-in_default
returns-in_default g c s es holds = omega (arith, holds.count, c.in_default.ensures)

pub returns : goal.returns
returns g c s es holds =
    elim c.match-entry_of_line.branch [
      | goal.in-Ok w ↦ rw w.result-is (omega (arith, holds.count, c.in-Some.ensures), column_after c.args.bytes.now _ w.in-Ok.ensures)
      | goal.in-Err-Line w ↦ rw w.result-is (omega (arith, holds.count, c.in-Some.ensures), (subst (λ f. TellsLine c.args.bytes.now (Err f)) w.in-Err-Line.field-0-is w.in-Err-Line.ensures).1)
      | goal.in-Err-Memory w ↦
          let told = subst (λ f. TellsLine c.args.bytes.now (Err f)) w.in-Err-Memory.field-0-is w.in-Err-Memory.ensures in
          rw w.result-is (omega (arith, holds.count, c.in-Some.ensures), column_after c.args.bytes.now told.1.0 told.1.1)
    ]
