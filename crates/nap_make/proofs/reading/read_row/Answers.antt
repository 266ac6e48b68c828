use Rattle.nap_make.proofs.{arith, refl, take_all}
use Rattle.nap_make.proofs.FieldLemmas.{all_read, last_read, no_space, no_word, one_read}
use Rattle.nap_make.proofs.reading.read_row.Goals as goal

pub returns-then-not-read : goal.returns-then-not-read
returns-then-not-read c =
    (c.loop-sort.rest.now, no_word c.loop-sort.invariant _ c.args.row.1 (omega (arith, c.loop-sort-test.true)) c.in-Some.ensures c.if-not-read.ensures, refl)

pub returns-in_default : goal.returns-in_default
returns-in_default c =
    (c.loop-sort.rest.now, no_space c.loop-sort.invariant c.args.row.1 c.args.row.1 (omega (arith, c.loop-sort-test.true)) c.in_default.ensures, refl)

pub loop-sort-preserved : goal.loop-sort-preserved
loop-sort-preserved c =
    let grows = c.if-not-read.ensures in
    one_read c.loop-sort.invariant _ _ (omega (arith, c.loop-sort-test.true)) grows.2 grows.1.fitting grows.1.written c.in-Some.ensures

pub returns-then-read : goal.returns-then-read
returns-then-read c =
    let grows = c.if-read.ensures in
    last_read c.args.row.0.now c.args.row.1 _ grows.0
    (all_read c.loop-sort.invariant (take_all c.loop-sort.sort-index c.args.row.0.now (omega (arith, c.loop-sort-test.false))))
    grows.1.fitting grows.1.written grows.2
