use Rattle.nap_canon.proofs.{Entry, Texts.entry_fails, Texts.entry_written, Texts.one_piece, err_from_is_err_and}
use Rattle.nap_canon.proofs.writer.Writer.put_point.Goals as goal

pub returns-in_err-write_all : goal.returns-in_err-write_all
returns-in_err-write_all g c =
    let failure = err_from_is_err_and c.from_residual.result c.from_residual.ensures.1 in
    rw failure.1 (entry_fails g.T.ByteSink.sent c.args.self.now (Entry.Point c.args.at c.args.pel.now c.args.colour.now) c.clear.ensures c.drawing.ensures c.append_point_prelude-is_current.ensures.appends
    (one_piece _ c.append_point.ensures) c.as_slice.ensures c.in_err-write_all.ensures failure.0)

pub returns : goal.returns
returns g c =
    entry_written g.T.ByteSink.sent c.args.self.now (Entry.Point c.args.at c.args.pel.now c.args.colour.now) c.clear.ensures c.drawing.ensures c.append_point_prelude-is_current.ensures.appends
    (one_piece _ c.append_point.ensures) c.as_slice.ensures c.in_ok-write_all.ensures _ c.step_to.ensures
