use Rattle.nap_canon.proofs.PublicLaws.{text_is_read, text1_is_read}
use Rattle.nap_canon.proofs.laws.text_is_read.Goals as goal

pub returns : goal.returns
returns c = record { text = text_is_read; text1 = text1_is_read }
