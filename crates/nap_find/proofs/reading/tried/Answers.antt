use Rattle.std.proofs.Common.{Bool, Some, arith, subst, sym}
use Rattle.nap_find.specs.Readings.{IsTried}
use Rattle.nap_find.proofs.ReaderLemmas.{accepted_page, refused_page}
use Rattle.nap_find.proofs.ReadingLemmas.{own_cause}
use Rattle.nap_find.proofs.reading.tried.Goals as goal

pub returns-in-Ok : goal.returns-in-Ok
returns-in-Ok c =
    λ s p none has size.
    let taken = c.in-Ok.ensures.ok s p has in
    subst (λ (b : Bool). IsTried c.args.asked.now p (Some b)) (sym c.is_enough.ensures.enough)
    (accepted_page c.args.asked.now s c.in-Ok.counts _ c.args.count p c.requires none size (omega (arith, c.is_enough.ensures.entries)) (omega (arith, c.is_enough.ensures.shapes)) taken.0 taken.1)

pub returns-in_default : goal.returns-in_default
returns-in_default c =
    λ s p none has size.
    let r = c.in-Err.stopped.refusal in
    let taken = c.in-Err.ensures.err (own_cause r.fault c.in_default.not-Memory c.in_default.not-Sink) s p has in
    refused_page c.args.asked.now _ p r c.requires taken.0
