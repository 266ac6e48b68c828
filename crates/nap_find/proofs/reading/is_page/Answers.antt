use Rattle.std.proofs.Common.{sym, subst}
use Rattle.nap_find.specs.Readings.{IsTried}
use Rattle.nap_find.proofs.ReadingLemmas.{refused_no_page}
use Rattle.nap_find.proofs.reading.is_page.Goals as goal

pub returns-in-None : goal.returns-in-None
returns-in-None c =
    sym (refused_no_page c.args.asked.now c.args.bytes.now (subst (IsTried c.args.asked.now c.args.bytes.now) c.in-None.is c.in_ok-found.ensures))
