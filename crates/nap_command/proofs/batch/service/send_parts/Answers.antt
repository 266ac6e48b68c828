use Rattle.nap_command.proofs.{SessionLemmas.head_fails, SessionLemmas.head_then, arith}
use Rattle.nap_command.proofs.batch.service.send_parts.Goals as goal

pub returns-in-Ok : goal.returns-in-Ok
returns-in-Ok g c = record {
  sends =
      head_then g.O.Outlet c.args.written c.args.head.now c.args.body.now c.args.output.now (omega arith) c.send_all.new.outlet c.send.new.output c.send_all.new.written
      c.in-Ok.ensures c.send.result c.send.ensures.sends;
}

pub returns-in-Err : goal.returns-in-Err
returns-in-Err g c = record {
  sends = head_fails g.O.Outlet c.args.written c.args.head.now c.args.body.now c.args.output.now (omega arith) c.send_all.new.outlet c.in-Err.field-0 c.send_all.new.written c.in-Err.ensures;
}
