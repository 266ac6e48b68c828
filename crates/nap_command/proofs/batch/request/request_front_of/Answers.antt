use Rattle.nap_command.proofs.{FrontLemmas.is_more, FrontLemmas.long_line, FrontLemmas.wrong_line, arith, refl, ◌-◌}
use Rattle.nap_make.proofs.PublicLaws.{uncut}
use Rattle.nap_command.proofs.batch.request.request_front_of.Goals as goal

pub returns-then-bytes-gt-LINE_LIMIT : goal.returns-then-bytes-gt-LINE_LIMIT
returns-then-bytes-gt-LINE_LIMIT c = long_line c.args.bytes.now c.in_default.ensures (omega (arith, c.if-bytes-gt-LINE_LIMIT.true))

pub returns-in_default : goal.returns-in_default
returns-in_default c = record { endless = λ _. record { none = uncut 10 c.args.bytes.now c.in_default.ensures; few = omega (arith, c.if-bytes-gt-LINE_LIMIT.false) }; short = λ some. absurd (some refl) }

pub returns-in_default-parse_line : goal.returns-in_default-parse_line
returns-in_default-parse_line c = wrong_line c.in-Some.ensures c.in_default-parse_line.ensures

-- the end of the page is missing
pub returns-then-following-size : goal.returns-then-following-size
returns-then-following-size c =
    is_more (record {
      line = c.in-Some.line.now;
      following = c.in-Some.following.now;
      request = c.in-Some-parse_line.request;
      cut = c.in-Some.ensures;
      says = c.in-Some-parse_line.ensures;
      missing = omega (arith, c.if-following-size.true);
      some = omega (arith, c.if-following-size.true);
    })
