use Rattle.std.proofs.Common.{subst, sym, ◌∙◌}
use Rattle.nap_find.specs.{Readings.IsTried}
use Rattle.nap_find.proofs.EndLemmas.{verdict_of_page, verdict_of_other}
use Rattle.nap_find.proofs.verdict.verdict_whole.Goals as goal

pub returns-in-Some-true-clause-verdict : goal.returns-in-Some-true-clause-verdict
returns-in-Some-true-clause-verdict c =
    let tried = subst (IsTried c.args.asked.now c.args.bytes.now) c.in-Some-true.is c.requires in
    verdict_of_page c.args.asked.now c.args.bytes.now tried.0 c.args.more c.if-more.false (sym tried.1 ∙ c.in-Some-true.field-0-test)

pub returns-in-Some-false-clause-verdict : goal.returns-in-Some-false-clause-verdict
returns-in-Some-false-clause-verdict c =
    let tried = subst (IsTried c.args.asked.now c.args.bytes.now) c.in-Some-false.is c.requires in
    verdict_of_other c.args.asked.now c.args.bytes.now tried.0 c.args.more c.if-more.false (sym tried.1 ∙ c.in-Some-false.field-0-test)
