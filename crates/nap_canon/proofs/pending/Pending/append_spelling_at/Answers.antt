use Rattle.nap_canon.proofs.{JoinedEntries.next_line, JoinedEntries.next_point, JoinedEntries.next_typed, Texts.one_appended, arith, sized_lines, sized_text}
use Rattle.nap_canon.proofs.pending.Pending.append_spelling_at.Goals as goal

pub line_start-requires : goal.line_start-requires
line_start-requires c = omega (arith, c.requires.some, sized_lines _ _ _ _ c.in-Lines.is)

pub item-requires-in-Lines : goal.item-requires-in-Lines
item-requires-in-Lines c = omega (arith, c.requires.some, sized_lines _ _ _ _ c.in-Lines.is)

pub item-requires-in-Text : goal.item-requires-in-Text
item-requires-in-Text c = omega (arith, c.requires.some, sized_text _ _ _ _ _ c.in-Text.is)

pub returns-in-Points : goal.returns-in-Points
returns-in-Points c e es is =
    one_appended (next_point c.args.form c.args.old.now c.args.index c.in-Points.is c.item.ensures e es is) c.append_point.ensures

pub returns-in-Lines : goal.returns-in-Lines
returns-in-Lines c e es is =
    one_appended (next_line c.args.form c.args.old.now c.args.index c.in-Lines.is c.item-in-Lines.ensures c.line_start.ensures e es is) c.append_line.ensures

pub returns-in-Text : goal.returns-in-Text
returns-in-Text c e es is =
    one_appended (next_typed c.args.form c.args.old.now c.args.index c.in-Text.is c.item-in-Text.ensures e es is) c.append_text_byte.ensures
