use Rattle.nap_values.proofs.SpreadLemmas.{spread-digits_of}
use Rattle.nap_values.proofs.packed.spread_digits.Goals as goal

pub returns-clause-value : goal.returns-clause-value
returns-clause-value c = rw c.from-n.ensures (spread-digits_of c.args.n c.requires)
