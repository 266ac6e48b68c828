use Rattle.nap_values.proofs.{ColourLemmas.spreads, arith}
use Rattle.nap_values.proofs.colours.spread_digits.Goals as goal

pub returns-clause-value : goal.returns-clause-value
returns-clause-value c = rw c.from-n.ensures (spreads c.args.n (omega arith))
