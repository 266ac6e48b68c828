use Rattle.nap_canon.proofs.{AppendsPieces, Drawing, Texts.entry_fails, Texts.entry_written, attributes, err_from_is_err_and, spelling_pieces, subst, sym, with_attributes, ◌∙◌}
use Rattle.nap_canon.proofs.writer.Writer.put_other.Goals as goal

pub returns-in_err-write_all : goal.returns-in_err-write_all
returns-in_err-write_all g c =
    let failure = err_from_is_err_and c.from_residual.result c.from_residual.ensures.1 in
    rw failure.1 (entry_fails g.T.ByteSink.sent c.args.self.now c.args.entry.now c.clear.ensures c.drawing.ensures c.append_prelude.ensures.appends
    (subst (λ (d : Drawing). AppendsPieces (spelling_pieces c.args.self.now.form (with_attributes d (attributes c.args.entry.now)) c.args.entry.now) c.append_prelude.new.self c.append_spelling.new.self) (c.drawing-2.ensures ∙ sym c.drawing.ensures) c.append_spelling.ensures) c.as_slice.ensures c.in_err-write_all.ensures failure.0)

pub returns : goal.returns
returns g c =
    entry_written g.T.ByteSink.sent c.args.self.now c.args.entry.now c.clear.ensures c.drawing.ensures c.append_prelude.ensures.appends
    (subst (λ (d : Drawing). AppendsPieces (spelling_pieces c.args.self.now.form (with_attributes d (attributes c.args.entry.now)) c.args.entry.now) c.append_prelude.new.self c.append_spelling.new.self) (c.drawing-2.ensures ∙ sym c.drawing.ensures) c.append_spelling.ensures) c.as_slice.ensures c.in_ok-write_all.ensures _ c.step.ensures
