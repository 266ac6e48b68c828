use Rattle.nap_reader.proofs.{alone_acts, alone_stops, arith, front_made, lexes_alone, refl}
use Rattle.nap_reader.proofs.machine.Machine.single.Goals as goal

pub control-requires-clause-made : goal.control-requires-clause-made
control-requires-clause-made g c = front_made _ _ c.args.code _ _ c.requires.is

pub returns-in-Ok : goal.returns-in-Ok
returns-in-Ok g c = λ ended following.
    let acted = c.in-Ok.ensures.acts in
    alone_acts refl (lexes_alone c.requires.closed c.requires.rested c.requires.is) (grind arith) c.requires.acts {entries = acted.0} (grind arith) (grind arith) g.met.S.Sink.took_more g.met.S.Sink.wants_more

pub returns-in-Err : goal.returns-in-Err
returns-in-Err g c = λ ended following.
    rw c.from.ensures (alone_stops refl (lexes_alone c.requires.closed c.requires.rested c.requires.is) {fault = c.in-Err.fault} refl c.requires.acts (grind arith) (grind arith))
