use Rattle.nap_make.proofs.{Consumes-nil, PageLemmas.concluded, PageLemmas.header_fails, [], arith, false, Common.reading, refl, sym, true, ◌∙◌, ◌≡◌}
use Rattle.nap_canon.proofs.PublicLaws.{flushed_once}
use Rattle.nap_make.proofs.page.make_page.Goals as goal

-- the header was not written
pub returns-then-failed-clause-makes : goal.returns-then-failed-clause-makes
returns-then-failed-clause-makes g c =
    let O = g.O.Outlet in
    let s = c.new-sink.result in
    let input = c.args.input.now in
    let end = c.conclude in
    let fails : O.failed s.outlet ≡ true = sym c.failed.ensures ∙ c.if-failed.true in
    let h = header_fails O c.args.output s c.new-sink.ensures fails (reading g.I.Inlet input input) (record { none_failed = refl; gave = omega arith }) end.result.0 end.result.1 end.ensures.ends.taken (end.ensures.ends.failed fails) end.ensures.answer in (
      [],
      h.0,
      Consumes-nil _,
      h.1,
      h.2,
      h.3,
      flushed_once O g.met.O.Outlet.fails_by_write c.args.output c.requires.works s end.result.0 h.4 end.ensures.ends.flushes end.ensures.ends.write_failed,
    )

pub returns-clause-makes : goal.returns-clause-makes
returns-clause-makes g c =
    let O = g.O.Outlet in
    let s = c.new-sink.result in
    let (p, read, makes) = c.make_list-sink.ensures.makes in
    let t = c.make_list-sink.result.0 in
    let end = c.conclude-2 in
    let works : O.failed s.outlet ≡ false = sym c.failed.ensures ∙ c.if-failed.false in
    let h = concluded O c.args.output s c.new-sink.ensures works _ (λ t d k. k) (λ t d e k. k) (λ t. refl) p (reading g.I.Inlet c.args.input.now c.make_list-sink.new.input)
    g.met.O.Outlet.fails_by_write t c.make_list-sink.result.1 end.result.0 end.result.1 makes end.ensures.ends.taken end.ensures.ends.failed end.ensures.ends.write_failed end.ensures.answer in (
      p,
      h.0,
      read,
      h.1,
      h.2,
      h.3,
      flushed_once O g.met.O.Outlet.fails_by_write c.args.output c.requires.works t end.result.0 h.4 end.ensures.ends.flushes end.ensures.ends.write_failed,
    )
