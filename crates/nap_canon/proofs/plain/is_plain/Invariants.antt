use Rattle.nap_canon.proofs.PlainCodes.{Checked}
use Rattle.nap_canon.proofs.plain.is_plain.Given as goal

-- the bytes so far are lexed, and their codes checked
abbrev pub invariant-loop-byte : goal.invariant-loop-byte
invariant-loop-byte l = Checked l.bytes l.byte-index l.lexer l.check
