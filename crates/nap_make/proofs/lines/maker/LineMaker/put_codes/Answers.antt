use Rattle.nap_make.proofs.{After, AllFit, Err, PutsEntries, ap, arith, refl, subst, sym, text_count, text_entries, walk, ◌∙◌}
use Rattle.nap_make.proofs.CharLemmas.{last_code, last_fits, no_text, text_defines, text_fits, text_hand, text_left, text_proper, text_unended}
use Rattle.nap_make.proofs.FeedLemmas.{none_more, none_put, puts_all, puts_some}
use Rattle.nap_make.proofs.lines.maker.LineMaker.put_codes.Goals as goal

pub put_batch-requires : goal.put_batch-requires
put_batch-requires g c =
    subst (λ u. AllFit u (text_entries c.args.self.now.state.drawing After c.args.line.now.set c.args.codes.now)) (sym c.requires.follows.agrees) (text_fits c.requires.follows.follows c.args.codes.now c.requires.codes)

pub step-requires : goal.step-requires
step-requires g c =
    last_fits c.requires.follows.follows c.in-Some.last.now (last_code c.args.codes.now c.in-Some.field-0-1.now c.in-Some.last.now c.in-Some.ensures.cases.0 c.requires.codes)

pub returns-in_default-clause-puts : goal.returns-in_default-clause-puts
returns-in_default-clause-puts g c s es holds =
    let d = c.args.self.now.state.drawing in
    let set = c.args.line.now.set in
    none_more holds (text_entries d After set c.args.codes.now) (no_text set d c.args.codes.now c.in_default.ensures.cases)

pub returns-in_default-checked_add-clause-puts : goal.returns-in_default-checked_add-clause-puts
returns-in_default-checked_add-clause-puts g c s es holds =
    let d = c.args.self.now.state.drawing in
    none_put holds (text_entries d After c.args.line.now.set c.args.codes.now) (omega (arith, c.in_default-checked_add.ensures, text_count c.args.line.now.set (text_hand d) c.args.codes.now))

pub returns-in-Err-clause-puts : goal.returns-in-Err-clause-puts
returns-in-Err-clause-puts g c s es holds =
    let ds = text_entries c.args.self.now.state.drawing After c.args.line.now.set c.args.codes.now in
    let new = record c.args.self.now { sink = c.put_batch.new.self } in
    subst (λ f. PutsEntries g.S.Sink s es ds new (Err f)) (sym c.fault_of_sink.ensures)
    (puts_some holds ds new c.in-Err.stop.taken c.in-Err.stop.fault g.met.S.Sink.took_more g.met.S.Sink.took_broke c.in-Err.ensures.0 c.in-Err.ensures.1)

pub returns-clause-agrees : goal.returns-clause-agrees
returns-clause-agrees g c =
    let l = c.args.line.now in
    let state = c.args.self.now.state in
    let codes = c.args.codes.now in
    let last = c.in-Some.last.now in
    let is = c.in-Some.ensures.cases.0 in
    c.in_default-put_batch.ensures.state ∙ ap (λ u. walk u (text_entries state.drawing After l.set codes)) c.requires.follows.agrees
    ∙ sym (c.step.ensures ∙ text_left c.requires.follows.follows codes c.in-Some.field-0-1.now last is (last_code codes c.in-Some.field-0-1.now last is c.requires.codes))

pub returns-clause-puts : goal.returns-clause-puts
returns-clause-puts g c s es holds =
    let l = c.args.line.now in
    let state = c.args.self.now.state in
    let codes = c.args.codes.now in
    let follows = c.requires.follows.follows in
    let all = c.requires.codes in
    let last = c.in-Some.last.now in
    let is = c.in-Some.ensures.cases.0 in
    puts_all holds (text_entries state.drawing After l.set codes) (record c.args.self.now { sink = c.put_batch.new.self; state = c.step.new.self; lines = c.in-Some-checked_add.lines })
    (text_proper follows codes all) (text_fits follows codes all) (text_unended follows codes all) (text_defines follows codes all) g.met.S.Sink.took_more
    c.in_default-put_batch.ensures.took (c.in_default-put_batch.ensures.works holds.kept.works)
    (c.step.ensures ∙ text_left follows codes c.in-Some.field-0-1.now last is (last_code codes c.in-Some.field-0-1.now last is all))
    (omega (arith, c.in-Some-checked_add.ensures, text_count l.set (text_hand state.drawing) codes)) refl
