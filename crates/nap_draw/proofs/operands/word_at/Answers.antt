use Rattle.nap_draw.proofs.{operand_words, unwrap_or-slice_get, ◌∙◌}
use Rattle.nap_draw.proofs.operands.word_at.Goals as goal

pub returns : goal.returns
returns c = c.word_or.ensures ∙ unwrap_or-slice_get (operand_words c.args.run.now) c.args.index 0
