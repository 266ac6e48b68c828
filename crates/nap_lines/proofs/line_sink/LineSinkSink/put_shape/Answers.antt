use Rattle.nap_lines.proofs.{PrintLemmas.shape_listed, PrintLemmas.shape_unlisted, entry_of_shape}
use Rattle.nap_lines.proofs.line_sink.LineSinkSink.put_shape.Goals as goal

pub returns-in_err-write_shape_line : goal.returns-in_err-write_shape_line
returns-in_err-write_shape_line c =
    shape_unlisted (entry_of_shape c.args.shape.now) c.from_residual.result c.self.view_is c.in_err-write_shape_line.ensures.err c.from_residual.ensures.1

pub returns : goal.returns
returns c =
    shape_listed (entry_of_shape c.args.shape.now) c.self.view_is c.in_ok-write_shape_line.ensures.ok c.after_shape-self-inside.ensures
