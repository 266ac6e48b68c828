use Rattle.nap_values.proofs.{OperandLemmas.eight_bytes, arith, ◌∙◌}
use Rattle.nap_values.proofs.operand.pack_padded.Goals as goal

pub returns-in-len8 : goal.returns-in-len8
returns-in-len8 c =
    let run = c.args.run.now in
    c.pack_eight-in-len8.ensures ∙ eight_bytes run (omega arith)
