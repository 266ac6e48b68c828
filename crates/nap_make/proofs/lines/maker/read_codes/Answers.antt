use Rattle.nap_make.proofs.{All, All-push, CharLemmas.codes_more, IsCode, code_lines, subst, sym, ◌++◌, ◌≡◌}
use Rattle.nap_make.proofs.lines.maker.read_codes.Goals as goal

pub loop-rest-preserved : goal.loop-rest-preserved
loop-rest-preserved c =
    let inv = c.loop-rest.invariant in
    let more = c.in-Some.more.now in
    record {
      codes = subst (All IsCode) (sym c.push.ensures.items) (All-push IsCode _ _ inv.codes c.in-Some.ensures.0);
      lines = subst (λ codes. c.args.bytes.now ≡ code_lines c.args.line.now codes ++ more) (sym c.push.ensures.items) (codes_more c.args.line.now c.args.bytes.now _ _ more _ inv.lines c.in-Some.ensures.1);
    }
