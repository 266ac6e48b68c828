use Rattle.nap_reader.proofs.{made, cause_of, refl, refused_alike, Some, zero-add}
use Rattle.nap_reader.proofs.counting.read_counted.Goals as goal

pub returns-in-Ok : goal.returns-in-Ok
returns-in-Ok g c =
    let h = rw c.new.ensures at c.in-Ok.ensures.collects in
    record { counts = rw (c.into_inner.ensures, c.count-count.ensures) (h.0, h.1.took, rw zero-add at (h.1.count.grows 0 refl)) }

pub returns-in-Err : goal.returns-in-Err
returns-in-Err g c =
    record { counts = refused_alike g.S.Sink (made c.args.sink (Some 0)) c.args.budget c.args.stream.now c.in-Err.refusal (cause_of c.in-Err.refusal.fault) (rw c.new.ensures at c.in-Err.ensures.collects) }
