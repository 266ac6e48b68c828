use Rattle.nap_lines.proofs.{WritingLemmas.few_others, ap, arith, entry_of_shape, walk, ◌++◌, ◌∙◌}
use Rattle.nap_lines.proofs.PrintLemmas.{broke_one, one_line, shape_broken, shape_refused, shape_taken, took_one, works_still}
use Rattle.nap_lines.proofs.printer.LinePrinterSink.put_shape.Goals as goal

pub returns-in_err-write_shape_line : goal.returns-in_err-write_shape_line
returns-in_err-write_shape_line g c =
    let works = works_still g.O.Outlet c.self.view_is c.failed.ensures c.if-failed.false in
    let short = c.in_err-write_shape_line.ensures.memory in
    rw (← c.self.view_is) (shape_refused g.O.Outlet _ (entry_of_shape c.args.shape.now) c.from_residual.result c.in_err-write_shape_line.ensures.err c.from_residual.ensures.1 works
    (omega (arith, c.self.invariant.space, c.self.invariant.few works, short.1, few_others c.args.shape.now c.requires.made)))

pub returns-in_default : goal.returns-in_default
returns-in_default g c =
    let x = entry_of_shape c.args.shape.now in
    let works = works_still g.O.Outlet c.self.view_is c.failed.ensures c.if-failed.false in
    rw (← c.self.view_is) (shape_broken g.O.Outlet _ _ x works
    (broke_one g.O.Outlet _ x _ _ _ _ (c.in_ok-write_shape_line.ensures.ok ∙ ap (c.self.inside.buffered.items ++◌) (one_line x)) _ c.in_default.ensures.sent))

pub returns : goal.returns
unfolding walk
returns g c =
    let x = entry_of_shape c.args.shape.now in
    let works = works_still g.O.Outlet c.self.view_is c.failed.ensures c.if-failed.false in
    rw (← c.self.view_is) (shape_taken g.O.Outlet _ _ x works
    (took_one g.O.Outlet _ x _ _ _ _ (c.in_ok-write_shape_line.ensures.ok ∙ ap (c.self.inside.buffered.items ++◌) (one_line x)) _ _ c.in-Ok.ensures.sent c.after_shape-self-inside.ensures))
