use Rattle.nap_codes.proofs.PublicLaws.{refused_is_spelled}
use Rattle.nap_codes.proofs.laws.front_is_spelled.Goals as goal

pub returns-clause-refused : goal.returns-clause-refused
returns-clause-refused c = refused_is_spelled
