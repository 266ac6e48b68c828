use Rattle.std.proofs.Common.{arith, ◌++◌, ◌∙◌}
use Rattle.nap_find.proofs.ReaderLemmas.{known_of, read_all, refused_at, taken_of}
use Rattle.nap_find.proofs.ReadingLemmas.{own_cause}
use Rattle.nap_find.proofs.reading.refused_index.Goals as goal

pub returns-in-Ok-clause-read : goal.returns-in-Ok-clause-read
returns-in-Ok-clause-read c =
    λ s p has. read_all c.feed.new.self s (p ++ c.args.piece.now) (c.feed.ensures.has_read s p has) c.in-Ok.ensures.answered (c.feed.ensures.budget ∙ c.requires.budget)

pub returns-in-Ok-clause-drawn : goal.returns-in-Ok-clause-drawn
returns-in-Ok-clause-drawn c =
    λ s p has. (known_of c.feed.new.self s (p ++ c.args.piece.now) (c.feed.ensures.has_read s p has) c.in-Ok.ensures.answered (c.feed.ensures.budget ∙ c.requires.budget)).taken

pub returns-in_default-clause-read : goal.returns-in_default-clause-read
returns-in_default-clause-read c =
    λ s p has.
    let r = c.in-Err.refusal in
    let stops = c.in-Err.ensures.stops c.requires.unrefused in
    refused_at c.args.reader.now c.feed.new.self s p c.args.piece.now r stops.0 _ has c.requires.unrefused c.requires.budget
    (own_cause r.fault c.in_default.not-Memory c.in_default.not-Sink) stops.1 (omega (arith, stops.1.fed, c.fed.ensures))

pub returns-in_default-clause-drawn : goal.returns-in_default-clause-drawn
returns-in_default-clause-drawn c =
    λ s p has.
    let r = c.in-Err.refusal in
    taken_of c.feed.new.self s (p ++ c.args.piece.now) r (c.feed.ensures.has_read s p has) c.in-Err.ensures.answered (c.feed.ensures.budget ∙ c.requires.budget)
    (own_cause r.fault c.in_default.not-Memory c.in_default.not-Sink)
