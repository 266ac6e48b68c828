use Rattle.nap_reader.proofs.{arith, grown_moves, moves_then, stores_can}
use Rattle.nap_reader.proofs.input.Input.keep.Goals as goal

pub advance-requires : goal.advance-requires
advance-requires c = (c.args.piece.now, stores_can c.in_ok-append.ensures.ok c.requires.next)

pub returns-clause-ok : goal.returns-clause-ok
returns-clause-ok c =
    let sets = c.in_ok-append.ensures.ok in
    moves_then c.args.count (omega arith) (grown_moves _ sets) c.advance.ensures sets.store_is sets.body
