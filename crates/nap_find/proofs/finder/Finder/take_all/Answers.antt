use Rattle.std.proofs.Common.{ap, arith, get_or, length, sym, ◌+◌, ◌<◌, ◌∙◌, ◌≡◌, ◌≤◌}
use Rattle.nap_find.specs.{Finders.finding_of, Rows.step, declared.find.Asked.Asked}
use Rattle.nap_find.proofs.RowLemmas.{last_byte, next_byte, passed_on}
use Rattle.nap_find.proofs.finder.Finder.take_all.Goals as goal

pub loop-at-preserved-then-at-piece : goal.loop-at-preserved-then-at-piece
loop-at-preserved-then-at-piece c =
    let asked = c.args.self.now.asked in
    let piece = c.args.piece.now in
    let at = c.loop-at.at in
    let n = c.pass_over-passed.result in
    let m = c.in_ok-plain.plain in
    let f = finding_of c.loop-at.self c.loop-at.found in
    let g = finding_of c.pass_over-passed.new.self c.loop-at.found in
    let h = finding_of c.take_plain.new.self c.loop-at.found in
    let more : at + n + m < length piece = omega arith in
    let same : c.pass_over-passed.new.self.asked ≡ asked = c.pass_over-passed.ensures.asked ∙ c.loop-at.invariant.asked in
    record {
      finding = next_byte asked h (finding_of c.step.new.self c.step.new.found) piece (at + n + m) more
          (c.in_ok-step.ensures.finding ∙ ap (λ (a : Asked). step a h (get_or piece (at + n + m) 0)) (c.take_plain.ensures.asked ∙ same))
          ∙ passed_on asked c.pass_over-passed.new.self.asked g h piece (at + n) m same (c.in_ok-plain.ensures.finding c.loop-at.found)
          ∙ passed_on asked c.loop-at.self.asked f g piece at n c.loop-at.invariant.asked (c.pass_over-passed.ensures.finding c.loop-at.found) ∙ c.loop-at.invariant.finding;
      within = omega arith;
      bytes = omega (arith, c.in_ok-step.ensures.bytes, c.in_ok-plain.ensures.bytes, c.pass_over-passed.ensures.bytes, c.loop-at.invariant.bytes);
      asked = c.step.ensures.asked ∙ c.take_plain.ensures.asked ∙ same;
      lacks = c.step.ensures.lacks ∙ c.take_plain.ensures.lacks ∙ c.pass_over-passed.ensures.lacks ∙ c.loop-at.invariant.lacks;
    }

pub returns-clause-finding : goal.returns-clause-finding
returns-clause-finding c =
    let piece = c.args.piece.now in
    let at = c.loop-at.at in
    let none : length piece ≤ at = omega arith in
    sym (last_byte c.args.self.now.asked (finding_of c.loop-at.self c.loop-at.found) piece at none) ∙ c.loop-at.invariant.finding
