use Rattle.nap_command.proofs.{IsWhole, KeepsWithin, Ok, ap, append-nil, drop, reading, subst, sym, take, take-append-drop, ◌++◌, ◌+◌, ◌∙◌, ◌≡◌}
use Rattle.nap_command.specs.Waiting.{FindsRequest}
use Rattle.nap_command.proofs.SessionLemmas.{answered, dropped_exchange, exchange_of, is_dropped, is_exchange, unasked}
use Rattle.nap_command.proofs.batch.service.exchange.Goals as goal

-- the request that the buffer begins with is answered
pub returns-in-Ok-Whole-clause-exchanged : goal.returns-in-Ok-Whole-clause-exchanged
returns-in-Ok-Whole-clause-exchanged g c =
    let I = g.I.Inlet in
    let O = g.O.Outlet in
    let w = c.in-Ok-Whole in
    let h = w.ensures.found in
    let buffer = c.wait.new.buffer.bytes in
    let new = c.answer_front.new.buffer in
    let all = c.args.buffer.now.bytes ++ h.bytes in
    let (same, whole, works) = subst (λ f. FindsRequest (reading I c.args.input.now c.wait.new.input) all c.wait.new.buffer (Ok f)) w.field-0-is h.finds in
    let front = subst (λ bytes. IsWhole bytes w.line w.start) (sym same) whole in
    let (text, is, sends) = c.answer_front.ensures.answers in
    let end = w.start + w.line.size in
    let rest : new.bytes ≡ drop end buffer = ap (λ b. b.bytes) c.answer_front.ensures.buffered in
    let parts : all ≡ take end buffer ++ new.bytes =
    sym same ∙ (sym (take-append-drop end buffer) ∙ ap (take end buffer ++◌) (sym rest)) in
    let memory : new.memory ≡ c.wait.new.buffer.memory = ap (λ b. b.memory) c.answer_front.ensures.buffered in
    let within = subst (KeepsWithin all c.args.buffer.now.memory) (sym memory) h.keeps in
    answered I O c.args.written c.args.buffer.now new h.bytes c.args.input.now c.wait.new.input c.args.output.now h.read c.answer_front.new.output works
    (exchange_of buffer w.line w.start text) (is_exchange buffer w.line w.start text front is) parts within c.answer_front.result sends.sends

-- the page of the request was dropped
pub returns-in-Ok-Dropped-clause-exchanged : goal.returns-in-Ok-Dropped-clause-exchanged
returns-in-Ok-Dropped-clause-exchanged g c =
    let I = g.I.Inlet in
    let O = g.O.Outlet in
    let w = c.in-Ok-Dropped in
    let h = w.ensures.found in
    let buffer = c.wait.new.buffer in
    let all = c.args.buffer.now.bytes ++ h.bytes in
    let (gone, works) = subst (λ f. FindsRequest (reading I c.args.input.now c.wait.new.input) all buffer (Ok f)) w.field-0-is h.finds in
    let parts : all ≡ all ++ buffer.bytes = sym (append-nil all) ∙ ap (all ++◌) (sym gone.empty) in
    answered I O c.args.written c.args.buffer.now buffer h.bytes c.args.input.now c.wait.new.input c.args.output.now h.read c.send.new.output works (dropped_exchange all gone.asked)
    (is_dropped all gone.asked) parts h.keeps c.send.result c.send.ensures.sends

-- no request was read
pub returns-in-Err-clause-exchanged : goal.returns-in-Err-clause-exchanged
returns-in-Err-clause-exchanged g c =
    let h = c.in-Err.ensures.found in
    unasked g.I.Inlet g.O.Outlet c.args.written c.args.buffer.now c.wait.new.buffer h.bytes c.args.input.now c.wait.new.input c.args.output.now h.read c.in-Err.ended h.finds
