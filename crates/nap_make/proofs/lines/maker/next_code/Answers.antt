use Rattle.nap_make.proofs.CharLemmas.{one_line}
use Rattle.nap_make.proofs.lines.maker.next_code.Goals as goal

pub returns : goal.returns
returns c = (
  c.in_ok-code.ensures.fitting,
  one_line c.args.line.now c.in_ok-code.code c.args.bytes.now c.in_ok-digits.digits.now c.in_ok-others.others.now c.in_ok-digits.others.now c.in_ok-others-2.others.now c.in_ok-more.more.now
      c.in_ok-others.ensures c.in_ok-digits.ensures.cases.1 c.in_ok-digits.ensures.cases.2 c.in_ok-code.ensures.written c.in_ok-others-2.ensures c.in_ok-more.ensures,
)
