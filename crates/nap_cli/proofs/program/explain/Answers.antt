use Rattle.nap_cli.proofs.{CommandLineLemmas.true_or_false, Err, IsPlainText, Ok, [], or-false, outputs, refl, rules, subst, sym, ◌∙◌}
use Rattle.std.proofs.KnownBytes.{Appends-nil}
use Rattle.clap.specs.Values.{kind_of}
use Rattle.nap_command.specs.declared.answer.Verdict.{Verdict}
use Rattle.nap_cli.proofs.ExplainLemmas.{explains_help, explains_memory, explains_wrong, shows_failing, takes_plain}
use Rattle.nap_cli.proofs.program.explain.Goals as goal

pub returns-in_default : goal.returns-in_default
returns-in_default g c =
    let t = c.report.ensures in
    explains_memory _ _ _ (kind_of c.args.error) (record { unprinted = assumption; e = t.0; reported = t.1; tells = t.2 })

pub returns-in-Ok-write_whole : goal.returns-in-Ok-write_whole
returns-in-Ok-write_whole g c =
    let write = c.in-Ok-write_whole.ensures in
    explains_help _ _ _ (kind_of c.args.error) (λ h. true_or_false c.use_stderr.result c.if-use_stderr.false (c.use_stderr.ensures.1 h)) (record {
      text = c.as_slice-2.result.now;
      e = [];
      ended = Ok Verdict.Accepted;
      shown = (write.takes, write.failed ∙ or-false _, write.sent, write.flushes);
      reported = Appends-nil (g.E.Outlet.taken c.args.errors.now);
      tells = (record { prefix = refl; all = λ _. refl }, refl);
    })

pub returns : goal.returns
returns g c =
    let write = c.in-Err.ensures in
    let t = c.report-in-Err.ensures in
    let before = outputs g.O.Outlet g.E.Outlet c.args.output c.args.errors.now in
    let after = outputs g.O.Outlet g.E.Outlet c.write_whole-2.new.output c.report-in-Err.new.errors in
    explains_help before after _ (kind_of c.args.error) (λ h. true_or_false c.use_stderr.result c.if-use_stderr.false (c.use_stderr.ensures.1 h)) (record {
      text = c.as_slice-2.result.now;
      e = t.0;
      ended = Err c.in-Err.fault;
      shown = shows_failing before after c.as_slice-2.result.now c.in-Err.fault write.takes write.failed write.flushes;
      reported = t.1;
      tells = t.2;
    })

pub returns-then-use_stderr : goal.returns-then-use_stderr
returns-then-use_stderr g c =
    let plain : IsPlainText c.as_slice.result.now = subst IsPlainText (sym c.as_slice.ensures.value) c.in-Ok.ensures in
    let e = takes_plain _ _ _ _ c.write_whole.ensures.takes plain in
    let kinds = c.use_stderr.ensures.0 c.if-use_stderr.true in
    explains_wrong _ _ _ (kind_of c.args.error) kinds.0 kinds.1 (λ h. search rules) (record {
      unprinted = assumption;
      e = e.0;
      reported = e.1;
      plain = e.2;
      status_is = refl;
    })
