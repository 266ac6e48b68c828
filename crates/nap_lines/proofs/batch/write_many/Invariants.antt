use Rattle.nap_lines.proofs.{List, WritingLemmas.char_start, WritingLemmas.coded, flat_map, length, line_limit, take, text_byte_front, vec_capacity, vec_len, ℕ, ◌*◌, ◌++◌, ◌+◌, ◌-◌, ◌≡◌, ◌≤◌}
use Rattle.nap_lines.proofs.batch.write_many.Given as goal

abbrev pub invariant-loop-written : goal.invariant-loop-written
invariant-loop-written l = record {
  within : l.written ≤ length l.codes;
  few : vec_len l.text ≤ vec_len l.fn.text + line_limit * l.written;
  capacity : vec_capacity l.fn.text ≤ vec_capacity l.text;
  front : List ℕ;
  buffer : l.buffer ≡ front ++ l.fn.buffer;
  digits : List ℕ;
  rest : List ℕ;
  ready : length digits ≡ l.ready;
  block : l.block ≡ coded (char_start l.fn.set) l.fn.buffer digits ++ rest;
  text : l.text.items ≡ l.fn.text.items ++ flat_map (λ code. text_byte_front l.fn.set code ++ l.fn.buffer) (take l.written l.codes);
}

abbrev pub decreases-loop-written : goal.decreases-loop-written
decreases-loop-written l = length l.codes - l.written
