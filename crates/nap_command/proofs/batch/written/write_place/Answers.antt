use Rattle.nap_command.proofs.{arith, length-decimal-le}
use Rattle.nap_command.proofs.batch.written.write_place.Goals as goal

pub write_digits-from-requires : goal.write_digits-from-requires
write_digits-from-requires c = let digits = length-decimal-le 20 c.args.place (omega arith) (omega arith) (omega arith) in (omega (arith, digits), omega arith)
