use Rattle.nap_canon.proofs.PublicLaws.{text_of_prefix, text1_of_prefix}
use Rattle.nap_canon.proofs.laws.text_of_prefix.Goals as goal

pub returns : goal.returns
returns c = record { text = text_of_prefix; text1 = text1_of_prefix }
