use Rattle.nap_canon.proofs.{Entry, Preludes.none_appended, Texts.entry_fails, Texts.entry_written, attributes, colour_prelude, err_from_is_err_and, pel_prelude, pen_prelude, prelude, refl, text_prelude, texture_prelude}
use Rattle.nap_canon.proofs.writer.Writer.put_map.Goals as goal

pub returns-in_err-write_all : goal.returns-in_err-write_all
unfolding prelude pen_prelude pel_prelude colour_prelude texture_prelude text_prelude
returns-in_err-write_all g c =
    let failure = err_from_is_err_and c.from_residual.result c.from_residual.ensures.1 in
    rw failure.1 (entry_fails g.T.ByteSink.sent c.args.self.now (Entry.Map c.args.addr c.args.grb) c.clear.ensures c.drawing.ensures (none_appended (prelude c.drawing.result.now (attributes (Entry.Map c.args.addr c.args.grb))) refl)
    c.append_map.ensures c.as_slice.ensures c.in_err-write_all.ensures failure.0)

pub returns : goal.returns
unfolding prelude pen_prelude pel_prelude colour_prelude texture_prelude text_prelude
returns g c =
    entry_written g.T.ByteSink.sent c.args.self.now (Entry.Map c.args.addr c.args.grb) c.clear.ensures c.drawing.ensures (none_appended (prelude c.drawing.result.now (attributes (Entry.Map c.args.addr c.args.grb))) refl)
    c.append_map.ensures c.as_slice.ensures c.in_ok-write_all.ensures _ c.step.ensures
