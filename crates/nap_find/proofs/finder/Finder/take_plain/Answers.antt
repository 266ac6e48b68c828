use Rattle.std.proofs.Common.{arith, length, ◌<◌}
use Rattle.nap_find.specs.Finders.{finding_of}
use Rattle.nap_find.proofs.RowLemmas.{plain_more}
use Rattle.nap_find.proofs.finder.Finder.take_plain.Goals as goal

pub returns-in_ok-extend_from_slice-clause-finding : goal.returns-in_ok-extend_from_slice-clause-finding
returns-in_ok-extend_from_slice-clause-finding c =
    let n = c.plain_count-count.result in
    let some : 0 < length c.args.self.now.row.items = omega arith in
    λ found. plain_more c.args.self.now.asked (finding_of c.args.self.now found) c.args.piece.now _ n c.in_ok-extend_from_slice.ensures.items some (omega arith) (omega arith)
    c.plain_count-count.ensures.within c.plain_count-count.ensures.plain
