use Rattle.nap_reader.proofs.PublicLaws.{read_values_are_in_range}
use Rattle.nap_reader.proofs.laws.read_values_are_in_range.Goals as goal

pub returns : goal.returns
returns c = read_values_are_in_range
