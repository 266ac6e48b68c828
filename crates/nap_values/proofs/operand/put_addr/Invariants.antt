use Rattle.nap_values.proofs.{DigitLemmas.IsRestAt, array_vec_len, digits_of, operand_bytes, ◌++◌, ◌-◌, ◌≡◌}
use Rattle.nap_values.proofs.operand.put_addr.Given as goal

abbrev pub invariant-loop-i : goal.invariant-loop-i
invariant-loop-i l = record {
  at : IsRestAt 64 4 l.i l.unit l.rest;
  len : array_vec_len l.bytes ≡ l.i;
  bytes : l.bytes.items ++ operand_bytes (digits_of 64 (4 - l.i) l.rest) ≡ operand_bytes (digits_of 64 4 l.fn.addr);
}
