use Rattle.nap_make.proofs.{After, All, CharLemmas.text_fits, CharLemmas.text_lines, CharLemmas.text_proper, FeedLemmas.some_stop, IsCode, ap, arith, code_lines, err_from_is_err_and, length, length-append, subst, sym, text_entries, ◌++◌, ◌∙◌}
use Rattle.nap_make.proofs.lines.maker.LineMaker.take_alike.Goals as goal

pub returns-in_err-put_codes-clause-takes : goal.returns-in_err-put_codes-clause-takes
returns-in_err-put_codes-clause-takes g c s es holds =
    let l = c.args.line.now in
    let state = c.args.self.now.state in
    let codes = c.as_slice.result.now in
    let same = c.as_slice.ensures.value in
    let all = subst (All IsCode) (sym same) c.read_codes-rest.ensures.codes in
    let rest = c.read_codes-rest.result.now in
    let f = c.in_err-put_codes.field-0.0 in
    let e = err_from_is_err_and c.from_residual.result c.from_residual.ensures.1 in
    rw (e.1, e.2) (some_stop holds (text_entries state.drawing After l.set codes) rest c.put_codes.new.self f
    (text_proper c.requires.follows codes all) (text_fits c.requires.follows codes all)
    (c.read_codes-rest.ensures.lines ∙ ap (λ codes. code_lines l codes ++ rest) (sym same) ∙ ap (◌++ rest) (sym (text_lines c.requires.follows codes all)))
    (c.in_err-put_codes.ensures.puts s es holds))

pub returns-clause-leaves : goal.returns-clause-leaves
returns-clause-leaves g c =
    let l = c.args.line.now in
    let rest = c.read_codes-rest.result.now in
    record { agrees = c.in_ok-put_codes.ensures.agrees; less = omega (arith, ap length c.read_codes-rest.ensures.lines, length-append (code_lines l c.read_codes-rest.new.codes.items) rest) }

pub returns-clause-takes : goal.returns-clause-takes
returns-clause-takes g c s es holds =
    let l = c.args.line.now in
    let state = c.args.self.now.state in
    let codes = c.as_slice.result.now in
    let same = c.as_slice.ensures.value in
    let all = subst (All IsCode) (sym same) c.read_codes-rest.ensures.codes in
    let rest = c.read_codes-rest.result.now in
    record {
      more = text_entries state.drawing After l.set codes;
      parts = c.read_codes-rest.ensures.lines ∙ ap (λ codes. code_lines l codes ++ rest) (sym same) ∙ ap (◌++ rest) (sym (text_lines c.requires.follows codes all));
      holds = c.in_ok-put_codes.ensures.puts s es holds;
    }
