use Rattle.nap_lines.proofs.{PrintLemmas.closes_by, PrintLemmas.closes_failed, PrintLemmas.works_still, sym, ◌∙◌}
use Rattle.nap_lines.proofs.printer.LinePrinter.send_rest.Goals as goal

pub returns-then-failed : goal.returns-then-failed
returns-then-failed g c = closes_failed g.O.Outlet c.args.self.now (sym c.failed.ensures ∙ c.if-failed.true)

pub returns : goal.returns
returns g c =
    let works = works_still g.O.Outlet c.self.view_is c.failed.ensures c.if-failed.false in
    rw (← c.self.view_is) (closes_by g.O.Outlet _ _ _ c.send_lines.result works c.as_slice-lines.ensures.value c.send_lines.ensures)
