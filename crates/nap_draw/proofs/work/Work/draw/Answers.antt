use Rattle.nap_draw.proofs.{Execution.does_as, Execution.does_widely, Execution.sets_acts, Opcode, ap, clears_nothing, operand_words, rule}
use Rattle.nap_draw.proofs.work.Work.draw.Goals as goal

pub returns-in-Domain-clause-acts : goal.returns-in-Domain-clause-acts
returns-in-Domain-clause-acts g c = sets_acts g.S.Sink _ (g.met.S.Sink.took_none _) _ _ _ _ _ c.in-Domain.is c.set_domain.ensures

pub returns-in-Text-clause-acts : goal.returns-in-Text-clause-acts
returns-in-Text-clause-acts g c = sets_acts g.S.Sink _ (g.met.S.Sink.took_none _) _ _ _ _ _ c.in-Text.is c.set_text.ensures

pub returns-in-Texture-clause-acts : goal.returns-in-Texture-clause-acts
returns-in-Texture-clause-acts g c = sets_acts g.S.Sink _ (g.met.S.Sink.took_none _) _ _ _ _ _ c.in-Texture.is c.set_texture.ensures

pub returns-in-PointSetAbs-clause-acts : goal.returns-in-PointSetAbs-clause-acts
returns-in-PointSetAbs-clause-acts g c = sets_acts g.S.Sink _ (g.met.S.Sink.took_none _) _ _ _ _ _ c.in-PointSetAbs.is c.point_set_abs.ensures

pub returns-in-PointSetRel-clause-acts : goal.returns-in-PointSetRel-clause-acts
returns-in-PointSetRel-clause-acts g c = sets_acts g.S.Sink _ (g.met.S.Sink.took_none _) _ _ _ _ _ c.in-PointSetRel.is c.point_set_rel.ensures

pub returns-in-SelectColor-clause-acts : goal.returns-in-SelectColor-clause-acts
returns-in-SelectColor-clause-acts g c = sets_acts g.S.Sink _ (g.met.S.Sink.took_none _) _ _ _ _ _ c.in-SelectColor.is c.select_color.ensures

pub returns-in-Field-clause-acts : goal.returns-in-Field-clause-acts
returns-in-Field-clause-acts g c =
    does_as g.S.Sink clears_nothing _ _ _ _ _ _ (ap (λ (op : Opcode). rule c.args.self.now op (operand_words c.args.run.now)) c.in-Field.is) (does_widely g.S.Sink clears_nothing _ _ _ _ _ _ _ c.field.ensures)

pub returns-in-SetColor-clause-acts : goal.returns-in-SetColor-clause-acts
returns-in-SetColor-clause-acts g c =
    does_as g.S.Sink clears_nothing _ _ _ _ _ _ (ap (λ (op : Opcode). rule c.args.self.now op (operand_words c.args.run.now)) c.in-SetColor.is) (does_widely g.S.Sink clears_nothing _ _ _ _ _ _ _ c.set_color.ensures)

pub returns-in-Wait-clause-acts : goal.returns-in-Wait-clause-acts
returns-in-Wait-clause-acts g c =
    does_as g.S.Sink clears_nothing _ _ _ _ _ _ (ap (λ (op : Opcode). rule c.args.self.now op (operand_words c.args.run.now)) c.in-Wait.is) (does_widely g.S.Sink clears_nothing _ _ _ _ _ _ _ c.wait.ensures)

pub returns-in-Blink-clause-acts : goal.returns-in-Blink-clause-acts
returns-in-Blink-clause-acts g c =
    does_as g.S.Sink clears_nothing _ _ _ _ _ _ (ap (λ (op : Opcode). rule c.args.self.now op (operand_words c.args.run.now)) c.in-Blink.is) (does_widely g.S.Sink clears_nothing _ _ _ _ _ _ _ c.blink.ensures)
