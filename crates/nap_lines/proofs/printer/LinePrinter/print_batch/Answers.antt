use Rattle.nap_lines.proofs.{PrintLemmas.chunk, PrintLemmas.sent_on, Printing, ap, arith, passes_none, ◌∙◌}
use Rattle.nap_lines.proofs.printer.LinePrinter.print_batch.Goals as goal

pub loop-taken-init : goal.loop-taken-init
loop-taken-init g c =
    let works = ap (λ (t : Printing _). g.O.Outlet.failed t.outlet) c.self.view_is ∙ c.requires in
    record {
      within = omega arith;
      passes = rw (← c.self.view_is) (passes_none _ _);
      works = works;
      state = ap (λ (t : Printing _). t.state) c.self.view_is;
      space = ap (λ (t : Printing _). t.space) c.self.view_is;
      memory = c.self.invariant.space;
      few = c.self.invariant.few works;
    }

pub invariant_of-self : goal.invariant_of-self
invariant_of-self g c = record { space = c.loop-taken.invariant.memory; few = λ _. c.loop-taken.invariant.few }

pub invariant_of-self-in_default : goal.invariant_of-self-in_default
invariant_of-self-in_default g c = grind arith

-- a write failed
pub returns-in_default : goal.returns-in_default
returns-in_default g c =
    let at = c.loop-taken.invariant in
    let sent = c.in_default.ensures.sent in (
      ((sent.0.0, sent_on at.passes sent.0.1), sent.1),
      omega (arith, c.loop-taken-test.true, c.len.ensures),
      at.state,
      at.space,
    )

pub invariant_of-self-then-more-count : goal.invariant_of-self-then-more-count
invariant_of-self-then-more-count g c = grind arith

-- memory ran out
pub returns-then-more-count : goal.returns-then-more-count
returns-then-more-count g c = grind (arith, chunk)

pub loop-taken-preserved : goal.loop-taken-preserved
loop-taken-preserved g c = grind (arith, chunk)
