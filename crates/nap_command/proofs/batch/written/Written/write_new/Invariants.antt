use Rattle.nap_command.proofs.{LineLemmas.Goes, length, ◌+◌, ◌-◌, ◌≤◌}
use Rattle.nap_command.proofs.batch.written.Written.write_new.Given as goal

abbrev pub invariant-loop-self : goal.invariant-loop-self
invariant-loop-self l = record {
  near : l.at + l.fn.self.known ≤ l.fn.place + l.self.known;
  goes : Goes l.fn.self.known l.fn.self.text.items l.fn.self.count l.fn.place l.lines l.fn.step l.self.known l.self.text.items l.self.count l.at;
}

abbrev pub decreases-loop-self : goal.decreases-loop-self
decreases-loop-self l = length l.lines - l.self.known
