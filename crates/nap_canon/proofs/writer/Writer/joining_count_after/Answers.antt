use Rattle.nap_canon.proofs.{JoinedEntries.line_left, arith, length, sized_lines, sized_text}
use Rattle.nap_canon.proofs.writer.Writer.joining_count_after.Goals as goal

pub joining_code_count-requires : goal.joining_code_count-requires
joining_code_count-requires g c = record { some = omega (arith, c.requires.some, c.if-rest-eq0.false, c.len.ensures, c.len-2.ensures, sized_text _ _ _ _ _ c.in-Text.is) }

pub returns-in-Lines-clause-joins : goal.returns-in-Lines-clause-joins
returns-in-Lines-clause-joins g c some = grind (arith, length, sized_lines, line_left)
