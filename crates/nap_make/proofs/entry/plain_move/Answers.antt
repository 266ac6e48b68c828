use Rattle.nap_make.proofs.FieldLemmas.{step_fields}
use Rattle.nap_make.proofs.entry.plain_move.Goals as goal

pub returns : goal.returns
returns c = step_fields c.args.step c.args.hand c.requires
