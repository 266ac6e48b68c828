use Rattle.nap_canon.proofs.PublicLaws.{canonical_streams_agree}
use Rattle.nap_canon.proofs.laws.canonical_streams_agree.Goals as goal

pub returns : goal.returns
returns c = canonical_streams_agree
