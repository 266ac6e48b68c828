use Rattle.nap_cli.proofs.{map, shown_words, string_bytes, take, ◌≡◌}
use Rattle.nap_cli.proofs.wrong.escaped_words.Given as goal

-- what there is so far is how the words so far are shown
abbrev pub invariant-loop-word : goal.invariant-loop-word
invariant-loop-word l = map string_bytes l.shown.items ≡ shown_words (map string_bytes (take l.word-index l.words))
