use Rattle.nap_make.proofs.PublicLaws.{lists_tell_streams}
use Rattle.nap_make.proofs.laws.lists_tell_streams.Goals as goal

pub returns : goal.returns
returns c = lists_tell_streams
