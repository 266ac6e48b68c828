use Rattle.nap_draw.proofs.{All, AllFit, IsTextByte, State, ap, err_from_is_err_and, subst, sym}
use Rattle.nap_draw.proofs.Walks.{last_typed, no_codes, text_agrees, text_fits, text_is, text_left, text_none}
use Rattle.nap_draw.proofs.work.Work.characters.Goals as goal

pub put_batch-requires : goal.put_batch-requires
put_batch-requires g c =
    let s = c.args.self.now.state in
    let list = text_is s c.args.set c.args.codes.now c.requires.agrees.drawing.mode in
    subst (AllFit (g.S.Sink.state c.args.sink.now)) list (text_fits s _ c.args.set c.args.codes.now c.requires.agrees c.requires.made).0

pub returns-in_err-put_batch-clause-put : goal.returns-in_err-put_batch-clause-put
returns-in_err-put_batch-clause-put g c =
    let fault = err_from_is_err_and c.from_residual.result c.from_residual.ensures.1 in
    rw (fault.1, fault.2) (rw (text_is c.args.self.now.state c.args.set c.args.codes.now c.requires.agrees.drawing.mode) c.in_err-put_batch.ensures)

pub returns-in_default-clause-put : goal.returns-in_default-clause-put
returns-in_default-clause-put g c = rw (text_is c.args.self.now.state c.args.set c.args.codes.now c.requires.agrees.drawing.mode) c.in_ok-put_batch.ensures

pub returns-in_default-clause-work : goal.returns-in_default-clause-work
returns-in_default-clause-work g c =
    let w = c.args.self.now in
    let none = no_codes c.args.codes.now c.in_default.ensures.cases in
    ap (λ (s : State). record w { state = s }) (sym (text_none w.state c.args.set c.args.codes.now none))

pub returns-in_default-clause-agree : goal.returns-in_default-clause-agree
returns-in_default-clause-agree g c =
    let none = no_codes c.args.codes.now c.in_default.ensures.cases in
    text_agrees c.args.self.now.state _ _ _ c.args.set c.args.codes.now c.requires.agrees c.requires.made c.in_ok-put_batch.ensures.state (text_none c.args.self.now.state c.args.set c.args.codes.now none)

pub returns-clause-put : goal.returns-clause-put
returns-clause-put g c = rw (text_is c.args.self.now.state c.args.set c.args.codes.now c.requires.agrees.drawing.mode) c.in_ok-put_batch.ensures

pub returns-clause-work : goal.returns-clause-work
returns-clause-work g c =
    let w = c.args.self.now in
    ap (λ (s : State). record w { state = s }) (sym (text_left w.state c.args.set c.args.codes.now c.in-Some.field-0-1.now c.in-Some.code.now _ c.requires.agrees.drawing.mode c.in-Some.ensures.cases.0 c.last_char-self.ensures))

pub returns-clause-agree : goal.returns-clause-agree
returns-clause-agree g c =
    text_agrees c.args.self.now.state _ _ _ c.args.set c.args.codes.now c.requires.agrees c.requires.made c.in_ok-put_batch.ensures.state
    (text_left c.args.self.now.state c.args.set c.args.codes.now c.in-Some.field-0-1.now c.in-Some.code.now _ c.requires.agrees.drawing.mode c.in-Some.ensures.cases.0 c.last_char-self.ensures)

pub last_char-self-requires : goal.last_char-self-requires
last_char-self-requires g c = last_typed _ _ (subst (All IsTextByte) c.in-Some.ensures.cases.0 c.requires.made)
