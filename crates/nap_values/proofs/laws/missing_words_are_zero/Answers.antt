use Rattle.nap_values.proofs.PublicLaws.{missing_words_are_zero}
use Rattle.nap_values.proofs.laws.missing_words_are_zero.Goals as goal

pub returns : goal.returns
returns c = missing_words_are_zero
