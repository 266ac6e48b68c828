use Rattle.nap_lines.proofs.{PrintLemmas.prints_same, PrintLemmas.put_at, PrintsLines, ap, batch_entries, subst, sym, take, taken_count, walk, ◌∙◌}
use Rattle.nap_lines.proofs.printer.LinePrinterSink.put_batch.Goals as goal

pub returns : goal.returns
returns g c =
    let O = g.O.Outlet in
    let s = c.args.self.now in
    let list = batch_entries c.args.batch.now in
    let r = c.print_batch-printed.result in
    let prints = subst (λ t. PrintsLines O s list t r) (sym c.self.view_is) c.print_batch-printed.ensures in
    let same = prints_same O s _ list r prints in
    put_at O s _ _ list (sym c.failed.ensures ∙ c.if-failed.false) same.1 r prints
    (c.after_first-self-inside.ensures
    ∙ ap (λ v. walk v (take c.taken_count-taken.result list)) same.0
    ∙ ap (λ n. walk s.state (take n list)) (c.taken_count-taken.ensures ∙ ap (λ n. taken_count n r) c.len.ensures))
