use Rattle.nap_canon.proofs.PublicLaws.{text_leads, text1_leads}
use Rattle.nap_canon.proofs.laws.text_leads.Goals as goal

pub returns : goal.returns
returns c = record { text = text_leads; text1 = text1_leads }
