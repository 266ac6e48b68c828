use Rattle.std.proofs.Common.{◌∙◌, ◌-◌, ◌||◌, ℕ, ap, subst}
use Rattle.naplps.specs.Converting.{Converts}
use Rattle.naplps.specs.Device.{ReadingFrom, WritingTo}
use Rattle.naplps.specs.Reading as readings
use Rattle.naplps_examples.proofs.ConvertingLemmas.{converted}
use Rattle.naplps_examples.proofs.converting.convert_all.Goals as goal

pub returns : goal.returns
returns g c page is =
    let (p, q, read, took, converts, at_once, flushed) = c.convert-output.ensures.converts in
    let old = c.new-input.result in
    let new = c.convert-output.new.input in
    let output = c.convert-output.result.0 in
    let answer = c.convert-output.result.1 in
    let failed = output.write_failed || output.flush_failed in
    let seen : readings.Reading = record { left = g.R.Read.remaining new.reader; failed_before = old.failed; failed = new.failed; reads = new.calls - old.calls } in
    let opened = ap (λ (input : ReadingFrom _). g.R.Read.remaining input.reader) c.new-input.ensures ∙ is in
    let begun = ap (λ (output : WritingTo _). g.W.Write.contents output.writer) c.new.ensures in
    let ended = ap g.W.Write.contents c.into_inner.ensures in
    converted page p q seen _ _ failed answer (subst (λ (budget : ℕ). Converts budget p seen q failed answer) c.usual.ensures converts) (rw opened at read)
    (rw (ended, ← begun) took)
