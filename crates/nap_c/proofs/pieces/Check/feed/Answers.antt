use Rattle.nap_c.proofs.{Answer, Fault, ap, inl, inr, refusal_of, sym, ◌++◌, ◌∙◌, ◌≢◌}
use Rattle.std.proofs.lemmas.Bool.{false≢true}
use Rattle.nap_c.proofs.AnswerLemmas.{answers_uncounted, none_or_some, refused_so_far}
use Rattle.nap_c.proofs.pieces.Check.feed.Goals as goal

-- the page is refused so far
pub returns-in-Err-clause-answer : goal.returns-in-Err-clause-answer
returns-in-Err-clause-answer c =
    λ budget p h.
    let old = c.args.self.now.reader in
    let new = c.feed.new.self in
    let r = c.in-Err.refusal in
    let fed = p ++ c.args.piece.now in
    let some = c.in-Err.ensures.answered in
    let sound : r.fault ≢ Fault.Sink =
    elim (none_or_some (refusal_of old)) [
      | inl none ↦ λ is. false≢true (c.in-Err.ensures.failed none is)
      | inr before ↦ h.sound r (sym (ap (λ x. refusal_of x) (c.feed.ensures.latched before.0 before.1).1) ∙ some)
    ] in
    inr (record {
      status = ap (λ (a : Answer). a.status) c.refused_answer.ensures;
      whole = λ more.
          let why = refused_so_far (λ d wants. wants) new budget (c.feed.ensures.budget ∙ h.budget_is) fed (c.feed.ensures.has_read _ p h.has_read) r some sound more in
          answers_uncounted budget (fed ++ more) r.fault r.place c.refused_answer.result why c.refused_answer.ensures;
    })
