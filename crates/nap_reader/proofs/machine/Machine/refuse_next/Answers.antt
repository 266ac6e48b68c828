use Rattle.nap_reader.proofs.{arith, byte_stops, moves_then, refl}
use Rattle.nap_reader.proofs.machine.Machine.refuse_next.Goals as goal

pub returns-clause-stops : goal.returns-clause-stops
returns-clause-stops g c = λ count start piece byte at store opened moved next other lacks stops.
    rw c.refuse.ensures.answer
    (byte_stops (record { more = g.met.S.Sink.took_more; broken = g.met.S.Sink.took_broke; wants = g.met.S.Sink.wants_more; none = g.met.S.Sink.took_none }) next c.refuse.ensures.latched.is c.refuse.ensures.latched.sink other lacks
    (moves_then 1 (omega arith) moved c.advance.ensures refl refl) stops)
