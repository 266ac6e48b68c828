use Rattle.nap_reader.proofs.PublicLaws.{accepted_is_legal}
use Rattle.nap_reader.proofs.laws.accepted_is_legal.Goals as goal

pub returns : goal.returns
returns c = accepted_is_legal
