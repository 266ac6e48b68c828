use Rattle.nap_list.proofs.{SendsAll, length, sending, take, ◌-◌, ◌≡◌, ◌≤◌}
use Rattle.nap_list.proofs.device.sending.send_all.Given as goal

abbrev pub invariant-loop-taken : goal.invariant-loop-taken
invariant-loop-taken g l = record {
  within : l.taken ≤ length l.bytes;
  sent : SendsAll (sending g.O.Outlet l.fn.outlet l.fn.written) (take l.taken l.bytes) (sending g.O.Outlet l.outlet l.written);
  write_failed : g.O.Outlet.write_failed l.outlet ≡ g.O.Outlet.write_failed l.fn.outlet;
}

abbrev pub decreases-loop-taken : goal.decreases-loop-taken
decreases-loop-taken g l = length l.bytes - l.taken
