use Rattle.std.proofs.Common.{arith, length, ◌≡◌}
use Rattle.nap_find.specs.Finders.{finding_of}
use Rattle.nap_find.proofs.RowLemmas.{passed_bytes}
use Rattle.nap_find.proofs.finder.Finder.pass_over.Goals as goal

pub returns-clause-finding : goal.returns-clause-finding
returns-clause-finding c =
    let closed : length c.args.self.now.row.items ≡ 0 = omega arith in
    λ found. passed_bytes c.args.self.now.asked (finding_of c.args.self.now found) c.args.piece.now c.before_opener-count.result closed c.before_opener-count.ensures.within c.before_opener-count.ensures.others
