use Rattle.nap_canon.proofs.{arith, sized_lines, sized_text}
use Rattle.nap_canon.proofs.writer.Writer.joining_count.Goals as goal

pub line_start-requires : goal.line_start-requires
line_start-requires g c = omega (arith, c.requires.some, sized_lines _ _ _ _ c.in-Lines.is)

pub overflow_sub-points-in-Lines : goal.overflow_sub-points-in-Lines
overflow_sub-points-in-Lines g c = omega (arith, c.requires.some, sized_lines _ _ _ _ c.in-Lines.is)

pub joining_code_count-requires : goal.joining_code_count-requires
joining_code_count-requires g c = omega (arith, c.requires.some, sized_text _ _ _ _ _ c.in-Text.is)

pub returns-else-ne-clause-few : goal.returns-else-ne-clause-few
returns-else-ne-clause-few g c = omega (arith, c.requires.some, c.joining_point_count-in-Lines.ensures.few, sized_lines _ _ _ _ c.in-Lines.is)

pub returns-else-ne-2-clause-few : goal.returns-else-ne-2-clause-few
returns-else-ne-2-clause-few g c = omega (arith, c.joining_code_count.ensures.few, sized_text _ _ _ _ _ c.in-Text.is)

pub returns-else-ne-clause-some : goal.returns-else-ne-clause-some
returns-else-ne-clause-some g c joins = grind (arith, sized_lines)
