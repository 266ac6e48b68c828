use Rattle.nap_canon.proofs.{Canonical, EachIsCurrent, Err, Ok, PutsSome, Putting, arith, batch_entries, canon_sink_model, drop, false, length, length-drop, put_begins, refl, subst, sym, took_none, ◌+◌, ◌≡◌, ◌≤◌}
use Rattle.nap_canon.proofs.Sinks.{broke_after, current_after_part, halts_within, next_put, part_put, sink_of_writer, works_after}
use Rattle.nap_canon.proofs.canon_sink.CanonSink.put_current.Goals as goal

pub loop-taken-init : goal.loop-taken-init
loop-taken-init g c =
    let o = g.O.Outlet in
    let s = c.args.self.now in
    let rest = drop c.args.first (batch_entries c.args.batch.now) in
    record {
      from = omega arith;
      few = c.requires.few;
      putting = subst (λ (t : Canonical _). Putting (canon_sink_model o) s t rest rest) (sym c.self.view_is) (put_begins (canon_sink_model o) s rest (took_none o s));
      current = subst (λ (t : Canonical _). EachIsCurrent t.state rest) (sym c.self.view_is) c.requires.current;
      works = subst (λ (t : Canonical _). o.failed t.outlet ≡ false) (sym c.self.view_is) c.requires.works;
    }

pub loop-taken-preserved : goal.loop-taken-preserved
loop-taken-preserved g c =
    let o = g.O.Outlet in
    let s = c.args.self.now in
    let w = c.loop-taken.self-inside.writer in
    let t = sink_of_writer w in
    let u = sink_of_writer c.put_more.new.self in
    let list = batch_entries c.args.batch.now in
    let taken = c.loop-taken.taken in
    let more = c.in-Ok.more in
    let inv = c.loop-taken.invariant in
    let some : PutsSome o (drop taken list) t u (Ok more) = next_put o w t refl inv.works (Ok more) c.in-Ok.ensures in
    record {
      from = omega (arith, inv.from);
      few = omega (arith, some.1, inv.few, length-drop taken list);
      putting = part_put o s t u (drop c.args.first list) list taken inv.putting more (taken + more) refl some.2;
      current = current_after_part o list taken more refl inv.current some;
      works = works_after o (drop taken list) more some;
    }

pub overflow_add-result : goal.overflow_add-result
overflow_add-result g c =
    let w = c.loop-taken.self-inside.writer in
    let t = sink_of_writer w in
    let list = batch_entries c.args.batch.now in
    let taken = c.loop-taken.taken in
    let more = c.in-Err.more in
    let few : more ≤ length (drop taken list) =
    halts_within g.O.Outlet t (sink_of_writer c.put_more.new.self) (drop taken list) more (next_put g.O.Outlet w t refl c.loop-taken.invariant.works (Err more) c.in-Err.ensures) in
    omega (arith, few, c.loop-taken.invariant.few, length-drop taken list, c.len-count.ensures, c.len-count.type_inv)

pub returns-in-Err : goal.returns-in-Err
returns-in-Err g c =
    let o = g.O.Outlet in
    let w = c.loop-taken.self-inside.writer in
    let t = sink_of_writer w in
    let list = batch_entries c.args.batch.now in
    let taken = c.loop-taken.taken in
    let more = c.in-Err.more in
    let inv = c.loop-taken.invariant in
    broke_after o list c.args.first taken more inv.from inv.few inv.putting
    (next_put o w t refl inv.works (Err more) c.in-Err.ensures)
