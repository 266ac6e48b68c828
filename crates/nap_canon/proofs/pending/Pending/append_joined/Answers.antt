use Rattle.nap_canon.proofs.{JoinedEntries.rest_ends, JoinedEntries.rest_some, arith, joined_bytes, length, length-drop, length-take-le, sized_lines, sized_text}
use Rattle.nap_canon.proofs.pending.Pending.append_joined.Goals as goal

pub part-requires-in-Lines : goal.part-requires-in-Lines
part-requires-in-Lines c = omega (arith, c.requires.few, sized_lines _ _ _ _ c.in-Lines.is)

pub part-requires-in-Text : goal.part-requires-in-Text
part-requires-in-Text c = omega (arith, c.requires.few, sized_text _ _ _ _ _ c.in-Text.is)

pub returns-in-Lines-clause-bytes : goal.returns-in-Lines-clause-bytes
returns-in-Lines-clause-bytes c = grind (arith, length, length-take-le, sized_lines, length-drop, joined_bytes, rest_some)

pub returns-in-Lines-clause-text_end : goal.returns-in-Lines-clause-text_end
returns-in-Lines-clause-text_end c = grind (arith, length, length-take-le, sized_lines, length-drop, rest_ends)
