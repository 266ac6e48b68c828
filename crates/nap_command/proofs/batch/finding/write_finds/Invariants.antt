use Rattle.nap_command.proofs.{take, ◌++◌, ◌≡◌}
use Rattle.nap_command.specs.Finding.{find_lines}
use Rattle.nap_command.proofs.batch.finding.write_finds.Given as goal

abbrev pub invariant-loop-find : goal.invariant-loop-find
invariant-loop-find l = l.text.items ≡ l.fn.text.items ++ find_lines (take l.find-index l.finds)
