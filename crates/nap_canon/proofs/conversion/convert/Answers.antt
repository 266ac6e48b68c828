use Rattle.nap_canon.proofs.{Canonical, Concludes, Consumes-nil, Converts, Keeps, Ok, StopsAtOnce, Writes, [], ap, false, reading, refl, sending, sending_of, subst, sym, true, ℕ, ◌∙◌, ◌≡◌}
use Rattle.nap_canon.proofs.Conversions.{end_converts, fed_converts, flushed_once, header_fails, whole_converts}
use Rattle.nap_canon.proofs.conversion.convert.Goals as goal

-- the header was not written
pub returns-then-failed-clause-converts : goal.returns-then-failed-clause-converts
returns-then-failed-clause-converts g c =
    let I = g.I.Inlet in
    let O = g.O.Outlet in
    let s = c.new.result in
    let input = c.args.input.now in
    let reader = c.new-reader.result in
    let u = c.conclude.result.0 in
    let answer = c.conclude.result.1 in
    let there : c.into_sink.result ≡ s = c.into_sink.ensures.now ∙ c.new-reader.ensures.sink in
    let fails : O.failed c.into_sink.result.outlet ≡ true =
    subst (λ (t : Canonical _). O.failed t.outlet ≡ true) (c.sink.ensures.now ∙ sym c.into_sink.ensures.now) (sym c.failed.ensures ∙ c.if-failed.true) in
    let h = header_fails O c.args.output s c.new.ensures _ (λ t d k. k) (λ t d e k. k) refl (λ d k. k) I input reader c.new-reader.ensures.has_read c.new-reader.ensures.unrefused
    (ap (λ (t : Canonical _). O.failed t.outlet) (sym there) ∙ fails) u answer
    (subst (λ (t : Canonical _). Keeps (O.taken t.outlet) (O.taken u)) there c.conclude.ensures.ends.taken) (c.conclude.ensures.ends.failed fails)
    (subst (λ (t : Canonical _). Concludes t.written (Ok tt) (O.failed u) answer) there c.conclude.ensures.answer) in (
      [],
      h.0,
      Consumes-nil _,
      h.1,
      subst (λ (budget : ℕ). Converts budget [] (reading I input input) h.0 (O.failed u) answer) c.new-reader.ensures.budget h.2,
      subst (λ (budget : ℕ). StopsAtOnce I budget [] input input h.0) c.new-reader.ensures.budget h.3,
      flushed_once O g.met.O.Outlet.fails_by_write c.args.output c.requires.works c.into_sink.result u (subst (λ (t : Canonical _). Writes (sending O c.args.output 0) (sending_of O t)) (sym there) h.4)
          c.conclude.ensures.ends.flushes c.conclude.ensures.ends.write_failed,
    )

-- all was read, and nothing refused
pub returns-in-Ok-finish-clause-converts : goal.returns-in-Ok-finish-clause-converts
returns-in-Ok-finish-clause-converts g c =
    let O = g.O.Outlet in
    let s = c.new.result in
    let end = c.conclude-in-Ok-finish in
    let works = subst (λ (t : Canonical _). O.failed t.outlet ≡ false) (c.sink.ensures.now ∙ c.new-reader.ensures.sink) (sym c.failed.ensures ∙ c.if-failed.false) in
    whole_converts O c.args.output s c.new.ensures _ (λ t d k. k) (λ t d e k. k) refl (λ d k. k) works g.I.Inlet c.args.input.now c.feed_from.new.input c.new-reader.result c.feed_from.new.reader
    c.new-reader.ensures.has_read c.feed_from.ensures.budget c.args.budget c.new-reader.ensures.budget g.met.O.Outlet.fails_by_write c.requires.works end.result.0 end.result.1
    c.in-Ok.ensures.feeds c.in-Ok-finish.sink (c.in-Ok-finish.ensures.ok s) (end.ensures.ends, end.ensures.answer)

-- the stream is refused at its end
pub returns-in-Err-finish-clause-converts : goal.returns-in-Err-finish-clause-converts
returns-in-Err-finish-clause-converts g c =
    let O = g.O.Outlet in
    let s = c.new.result in
    let stopped = c.in-Err-finish.stopped in
    let end = c.conclude-in-Err-finish in
    let works = subst (λ (t : Canonical _). O.failed t.outlet ≡ false) (c.sink.ensures.now ∙ c.new-reader.ensures.sink) (sym c.failed.ensures ∙ c.if-failed.false) in
    end_converts O c.args.output s c.new.ensures _ (λ t d k. k) (λ t d e k. k) refl (λ d k. k) works g.I.Inlet c.args.input.now c.feed_from.new.input c.new-reader.result c.feed_from.new.reader
    c.new-reader.ensures.has_read c.feed_from.ensures.budget c.args.budget c.new-reader.ensures.budget g.met.O.Outlet.fails_by_write c.requires.works end.result.0 end.result.1
    c.in-Ok.ensures.feeds stopped.sink stopped.refusal (λ own. c.in-Err-finish.ensures.err own s) (λ unrefused other. c.in-Err-finish.ensures.breaks unrefused other s)
    (end.ensures.ends, end.ensures.answer)

-- the stream is refused before its end, or the input failed
pub returns-in-Err-clause-converts : goal.returns-in-Err-clause-converts
returns-in-Err-clause-converts g c =
    let O = g.O.Outlet in
    let s = c.new.result in
    let end = c.conclude-in-Err in
    let works = subst (λ (t : Canonical _). O.failed t.outlet ≡ false) (c.sink.ensures.now ∙ c.new-reader.ensures.sink) (sym c.failed.ensures ∙ c.if-failed.false) in
    fed_converts O c.args.output s c.new.ensures _ (λ t d k. k) (λ t d e k. k) refl (λ d k. k) works g.I.Inlet c.args.input.now c.feed_from.new.input c.new-reader.result c.feed_from.new.reader
    c.new-reader.ensures.has_read c.feed_from.ensures.budget c.args.budget c.new-reader.ensures.budget g.met.O.Outlet.fails_by_write c.requires.works end.result.0 end.result.1
    c.in-Err.fault c.in-Err.ensures.feeds c.into_sink-in-Err.result c.into_sink-in-Err.ensures.now (end.ensures.ends, end.ensures.answer)
