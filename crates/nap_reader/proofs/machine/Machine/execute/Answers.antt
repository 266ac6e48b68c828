use Rattle.nap_reader.proofs.{Err, None, RuleResult, [], ap, arith, asked_is, length, refl, run_spares, with_machine, works_on}
use Rattle.nap_reader.proofs.machine.Machine.execute.Goals as goal

pub returns-in-Ok : goal.returns-in-Ok
returns-in-Ok g c =
    let m = c.args.self.now in
    let acts = rw c.deref.ensures.value at c.in-Ok.ensures.acts in
    let drawn : RuleResult = record { entries = acts.0; work = c.act.new.self; clears = c.in-Ok.clears } in (
      works_on _ (omega arith, c.act.ensures.space) g.met.S.Sink.wants_more acts.2 c.in-Ok.ensures.clear (record { live = c.requires.live.live; agrees = acts.4 }),
      refl,
      λ h between. record {
        open_run = c.args.open_run;
        between = between;
        is = c.requires.run;
        drawn = drawn;
        by = rw c.requires.run acts.1;
        took = acts.2;
        clear = c.in-Ok.ensures.clear;
        holds = asked_is (record (with_machine h m) { open_run = None; run = [] }) c.act.new.self c.in-Ok.clears;
      },
    )

pub returns-in-Err : goal.returns-in-Err
returns-in-Err g c =
    let m = c.args.self.now in
    let acts = rw c.deref.ensures.value at c.in-Err.ensures.acts in
    rw c.from.ensures (λ h between. record { open_run = c.args.open_run; between = between; is = c.requires.run; fault = c.in-Err.fault; why = refl; drew = rw c.requires.run acts.1 }, grind arith, run_spares {g = g.S.Sink} m _ c.in-Err.fault (λ is. c.in-Err.ensures.lacks (ap Err is)) (omega (arith, ap length c.deref.ensures.value, m.short)))
