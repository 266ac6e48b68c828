use Rattle.nap_canon.proofs.PublicLaws.{text_is_plain, text1_is_plain}
use Rattle.nap_canon.proofs.laws.text_is_plain.Goals as goal

pub returns : goal.returns
returns c = record { text = text_is_plain; text1 = text1_is_plain }
