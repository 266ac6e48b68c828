use Rattle.nap_command.proofs.{ap, arith, drop, subst, take, ◌+◌, ◌-◌, ◌∙◌, ◌≡◌}
use Rattle.nap_command.specs.Sessions.{IsAnswered}
use Rattle.nap_command.proofs.batch.service.answer_front.Goals as goal

pub returns-clause-answers : goal.returns-clause-answers
returns-clause-answers g c =
    let r = c.args.line in
    let start = c.args.start in
    let buffer = c.args.buffer.now.bytes in
    let (text, is, sent) = c.answer-sent.ensures in
    let size : start + r.size - start ≡ r.size = omega arith in
    let page : take (start + r.size - start) (drop start c.bytes.result.now) ≡ take r.size (drop start buffer) =
    ap (λ bytes. take (start + r.size - start) (drop start bytes)) c.bytes.ensures ∙ ap (λ n. take n (drop start buffer)) size in
    (text, subst (λ p. IsAnswered r.question r.budget p text) page is, sent)
