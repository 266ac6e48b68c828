use Rattle.nap_make.proofs.FeedLemmas.{one_column}
use Rattle.nap_make.proofs.laws.columns_are_one.Goals as goal

pub returns : goal.returns
returns c = one_column
