use Rattle.nap_draw.proofs.{Entry, PutsSoFar, drop, map, operand_words}
use Rattle.nap_draw.proofs.work.Work.wait.Given as goal

abbrev pub invariant-loop-byte : goal.invariant-loop-byte
invariant-loop-byte g l = PutsSoFar g.S.Sink l.fn.sink l.sink (map Entry.Wait (operand_words l.run)) (map Entry.Wait (operand_words (drop l.byte-index l.run)))
