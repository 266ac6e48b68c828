use Rattle.nap_list.proofs.{arith, drop, length, length-drop, or-false, or-true, rest_of, sending, take, write_fails, write_grows, ◌∙◌, ◌≤◌}
use Rattle.nap_list.proofs.device.sending.send_all.Goals as goal

pub loop-taken-preserved : goal.loop-taken-preserved
loop-taken-preserved g c =
    let O = g.O.Outlet in
    let at = c.loop-taken in
    let so_far = at.invariant.sent in
    let count = c.in-Ok.count in
    let i = at.taken in
    let bytes = c.args.bytes.now in
    let few : count ≤ length (drop i bytes) = rw (rest_of i bytes) at c.in-Ok.ensures.bound in
    record {
      within = omega (arith, length-drop i bytes, few);
      sent = record {
        grows = write_grows O (sending O c.args.outlet.now c.args.written.now) at.outlet c.write.new.self at.written c.saturating_add.result i count bytes so_far.grows few
            (rw (rest_of i bytes) at c.in-Ok.ensures.bytes)
            c.in-Ok.ensures.failed c.in-Ok.ensures.write_failed c.in-Ok.ensures.flushes (omega arith) c.saturating_add.ensures;
        failed = c.in-Ok.ensures.failed ∙ or-false (O.failed at.outlet) ∙ so_far.failed;
      };
      write_failed = c.in-Ok.ensures.write_failed ∙ or-false (O.write_failed at.outlet) ∙ at.invariant.write_failed;
    }

pub returns-in_default : goal.returns-in_default
returns-in_default g c =
    let O = g.O.Outlet in
    let at = c.loop-taken in
    let fails = c.in_default.ensures in
    record {
      less = c.loop-taken-test.true;
      mid = at.outlet;
      prefix = at.invariant.sent;
      grows = write_fails O at.outlet c.write.new.self at.written fails.bytes fails.failed fails.write_failed fails.flushes;
      failed = fails.failed ∙ or-true (O.failed at.outlet);
      write_failed = fails.write_failed ∙ or-true (O.write_failed at.outlet);
    }
