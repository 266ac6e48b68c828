use Rattle.nap_reader.proofs.reader.Reader.finish.Goals as goal

pub returns-in-Err-clause-breaks : goal.returns-in-Err-clause-breaks
returns-in-Err-clause-breaks g c live broke s p h = rw c.into_sink-sink.ensures.now (c.in-Err.ensures.breaks live broke s p h)
