use Rattle.nap_find.specs.ShapeLaws.{shapes_of_lines, shapes_of_points, shapes_of_text}
use Rattle.nap_find.proofs.drawn_sink.shapes_of_batch.Goals as goal

pub returns-in-Text : goal.returns-in-Text
returns-in-Text c = shapes_of_text c.args.batch.now c.in-Text.set c.in-Text.codes c.in-Text.pen c.in-Text.drawing c.in-Text.is

pub returns-in-Points : goal.returns-in-Points
returns-in-Points c = shapes_of_points c.args.batch.now c.in-Points.points c.in-Points.drawing c.in-Points.is

pub returns-in-Lines : goal.returns-in-Lines
returns-in-Lines c = shapes_of_lines c.args.batch.now c.in-Lines.from c.in-Lines.points c.in-Lines.drawing c.in-Lines.is
