use Rattle.nap_lines.proofs.{PrintLemmas.broke_one, PrintLemmas.took_one, append-nil, append_assoc, arith, walk, ◌∙◌}
use Rattle.nap_lines.proofs.printer.LinePrinterSink.put.Goals as goal

pub returns-in_default-clause-broke : goal.returns-in_default-clause-broke
returns-in_default-clause-broke g c = λ _ works.
    rw (← c.self.view_is) (broke_one g.O.Outlet _ _ _ _ _ _ (c.in_ok-write_line.ensures.ok ∙ simp (append_assoc, append-nil)) _ c.in_default.ensures.sent)

pub returns-clause-took : goal.returns-clause-took
unfolding walk
returns-clause-took g c = grind (arith, took_one, append_assoc, append-nil)
