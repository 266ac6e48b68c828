use Rattle.nap_cli.proofs.{IsPlainText, shown_text, take, ◌≡◌}
use Rattle.nap_cli.proofs.wrong.escaped.Given as goal

-- what was appended so far is how the bytes so far are shown, and is plain
abbrev pub invariant-loop-byte : goal.invariant-loop-byte
invariant-loop-byte l = record {
  shown : l.plain.items ≡ shown_text l.lines (take l.byte-index l.text);
  plain : IsPlainText l.plain.items;
}
