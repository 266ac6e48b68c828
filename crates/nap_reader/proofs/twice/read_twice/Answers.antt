use Rattle.nap_reader.proofs.{[], ap, arith, broke_off, cause_of, inl, inr, memory_fault, refl, refused_early, sink_of, HasMemory, Promise}
use Rattle.nap_reader.proofs.twice.read_twice.Goals as goal

-- the stream is refused
pub returns-in-Err : goal.returns-in-Err
returns-in-Err g c =
    record { reads = inl (refused_early g.S.Sink c.args.sinks.0 c.args.budget c.args.stream.now (sink_of c.read_whole.new.reader) c.in-Err.refusal (rw c.new-reader.ensures.budget at (c.in-Err.ensures.reads c.args.sinks.0 c.new-reader.ensures.has_read)), refl) }

-- the second reading broke
pub returns-in-Err-read : goal.returns-in-Err-read
returns-in-Err-read g c =
    let again = c.in-Ok.ensures in
    let r = c.in-Err-read.refusal in
    let accepted = (rw c.new-reader.ensures.budget at (c.in_default.ensures.reads c.args.sinks.0 c.new-reader.ensures.has_read)).0 in
    let all = rw c.new-reader.ensures.budget at (c.in_default.ensures.charged c.args.sinks.0 c.new-reader.ensures.has_read) in
    let stored = ap (λ (q : Promise). q.stored) again.memory.promise in
    let charged = ap (λ (q : Promise). q.charged) again.memory.promise in
    record {
      reads = inr (
        accepted,
        record {
          broke = rw c.into_sink-second.ensures.now (broke_off (cause_of r.fault) accepted (rw again.budget at (c.in-Err-read.ensures.reads c.args.sinks.1 again.has_read)));
          lacks = λ never short.
              let held : HasMemory {g = g.T.Sink} c.in-Ok.made.1 = ((again.memory.machine, rw again.sink never), omega (arith, stored)) in
              omega (arith, rw again.budget at (c.in-Err-read.ensures.lacks (memory_fault r.fault short) held c.args.sinks.1 [] again.has_read), all, charged);
        },
      );
    }
