use Rattle.nap_canon.proofs.{Sinks.cut_sends, sending}
use Rattle.nap_canon.proofs.byte_sink.OutputByteSink.write_all.Goals as goal

pub returns-in-Err : goal.returns-in-Err
returns-in-Err g c = cut_sends (λ to. sending g.O.Outlet to.outlet to.written) c.args.self.now c.write_counted.new.self c.args.bytes.now _ c.in-Err.ensures
