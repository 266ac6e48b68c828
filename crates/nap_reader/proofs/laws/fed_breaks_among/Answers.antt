use Rattle.nap_reader.proofs.PublicLaws.{fed_breaks_among}
use Rattle.nap_reader.proofs.laws.fed_breaks_among.Goals as goal

pub returns : goal.returns
returns g c = fed_breaks_among g.S.Sink
