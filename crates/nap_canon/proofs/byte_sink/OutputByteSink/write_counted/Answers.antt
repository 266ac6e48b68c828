use Rattle.nap_canon.proofs.{Sinks.none_taken, arith, eqb-false, sending, sends_none, slice_index, sym, ◌∙◌}
use Rattle.nap_canon.proofs.byte_sink.OutputByteSink.write_counted.Goals as goal

pub returns-in_default : goal.returns-in_default
returns-in_default g c =
    let s = c.args.self.now in
    let bytes = c.args.bytes.now in
    let failed = c.in_default.ensures in
    record {
      less = omega (arith, eqb-false _ 0 (sym c.is_empty.ensures ∙ c.if-is_empty.false));
      mid = s;
      prefix = sends_none (sending g.O.Outlet s.outlet s.written);
      next = none_taken g.O.Outlet s.outlet c.write.new.self s.written (slice_index bytes 0) failed.bytes failed.failed failed.write_failed failed.flushes;
    }
