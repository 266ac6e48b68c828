use Rattle.nap_canon.proofs.PublicLaws.{sink_writes_text}
use Rattle.nap_canon.proofs.laws.sink_writes_text.Goals as goal

pub returns : goal.returns
returns g c = sink_writes_text g.O.Outlet
