use Rattle.nap_canon.proofs.{Texts.sent_both, Texts.sent_first, Texts.shape_joined, ap, arith, displacement_bytes, err_from_is_err_and, is_err, last_point, refl, take_all, ◌∙◌, ◌≡◌}
use Rattle.nap_canon.proofs.writer.Writer.write_long_path.Goals as goal

pub returns-in_err-write_all : goal.returns-in_err-write_all
returns-in_err-write_all g c =
    let w = c.args.self.now in
    let first = c.args.first in
    let near = c.split_at.result.0.now in
    let far = c.split_at.result.1.now in
    let bytes = c.as_slice.result.now in
    let failure = err_from_is_err_and c.from_residual.result c.from_residual.ensures.1 in
    rw failure.1 (record {
      sent = sent_first g.T.ByteSink.sent g.met.T.ByteSink.sent_more g.met.T.ByteSink.sent_cut (displacement_bytes (last_point first near) far)
          (shape_joined w.pending.bytes w.pending.text_end c.args.code first (last_point first near) near far c.args.others.now bytes (c.as_slice.ensures ∙ c.append_shape.ensures.appended)
          c.split_at.ensures.by_index.0 refl)
          c.in_err-write_all.ensures;
      text_end = c.append_shape.ensures.text_end;
      kept = (refl, refl);
    })

pub returns : goal.returns
returns g c =
    let w = c.args.self.now in
    let first = c.args.first in
    let near = c.split_at.result.0.now in
    let far = c.split_at.result.1.now in
    let bytes = c.as_slice.result.now in
    let last = c.line_start.result in
    let ends : last ≡ last_point first near = c.line_start.ensures ∙ ap (last_point first) (take_all _ near (omega arith)) in
    record {
      sent = sent_both g.T.ByteSink.sent g.met.T.ByteSink.sent_more g.met.T.ByteSink.sent_cut
          (shape_joined w.pending.bytes w.pending.text_end c.args.code first last near far c.args.others.now bytes (c.as_slice.ensures ∙ c.append_shape.ensures.appended)
          c.split_at.ensures.by_index.0 ends)
          c.in_ok-write_all.ensures c.write_displacements.ensures.sent;
      text_end = c.write_displacements.ensures.text_end ∙ c.append_shape.ensures.text_end;
      kept = c.write_displacements.ensures.kept;
    }
