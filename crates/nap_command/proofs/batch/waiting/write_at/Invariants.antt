use Rattle.nap_command.proofs.{take, vec_capacity, ◌++◌, ◌≡◌}
use Rattle.nap_command.proofs.batch.waiting.write_at.Given as goal

-- what there is, and the bytes so far after it
abbrev pub invariant-loop-byte : goal.invariant-loop-byte
invariant-loop-byte l = record {
  bytes : l.bytes.items ≡ take l.end l.fn.bytes.items ++ take l.byte-index l.more;
  memory : vec_capacity l.bytes ≡ vec_capacity l.fn.bytes;
}
