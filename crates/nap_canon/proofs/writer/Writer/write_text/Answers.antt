use Rattle.nap_canon.proofs.{JoinedEntries.whole_bytes, Texts.on_ok_from, arith}
use Rattle.nap_canon.proofs.writer.Writer.write_text.Goals as goal

pub returns-then-eq : goal.returns-then-eq
returns-then-eq g c = grind (arith, whole_bytes, on_ok_from)
