use Rattle.nap_canon.proofs.{FailsAfter, List, SendsAll, arith, drop, false, length-drop, rest_of, sending, sends_more, subst, sym, take, take-add, take-append-drop, ℕ}
use Rattle.nap_canon.proofs.byte_sink.Output.write_rest.Goals as goal

-- the rest was taken after what came before
pub returns-in-Ok : goal.returns-in-Ok
returns-in-Ok g c s so =
    let O = g.O.Outlet in
    let first = c.args.first in
    let bytes = c.args.bytes.now in
    let old = sending O c.args.self.now.outlet c.args.self.now.written in
    let new = sending O c.send_all.new.outlet c.send_all.new.written in
    let rest = subst (λ (sent : List ℕ). SendsAll old sent new) (rest_of first bytes) c.in-Ok.ensures.0 in
    subst (λ (sent : List ℕ). SendsAll (sending O s.outlet s.written) sent new) (take-append-drop first bytes)
    (sends_more (sending O s.outlet s.written) old new (take first bytes) (drop first bytes) false so rest)

-- a write failed in the rest
pub returns-in-Err : goal.returns-in-Err
returns-in-Err g c s so =
    let O = g.O.Outlet in
    let first = c.args.first in
    let bytes = c.args.bytes.now in
    let taken = c.in-Err.taken in
    let w = c.args.self.now in
    let u = c.send_all.new in
    let stops = subst (λ (sent : List ℕ). FailsAfter O w.outlet w.written sent taken u.outlet u.written) (rest_of first bytes) c.in-Err.ensures in
    let before = sending O s.outlet s.written in
    let mid = sending O stops.mid u.written in
    record {
      less = omega (arith, length-drop first bytes, stops.less);
      mid = record { outlet = stops.mid; written = u.written };
      prefix = subst (λ (sent : List ℕ). SendsAll before sent mid) (sym (take-add first taken bytes))
          (sends_more before (sending O w.outlet w.written) mid (take first bytes) (take taken (drop first bytes)) false so stops.prefix);
      next = record { part = 0; less = omega arith; grows = stops.grows; failed = stops.failed };
    }
