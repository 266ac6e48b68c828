use Rattle.nap_c.proofs.{IsRefusal, LacksToCount, Some, [], ap, append-nil, inl, inr, refusal_of, sink_of, subst, sym, ◌∙◌, ◌≡◌}
use Rattle.std.proofs.lemmas.Bool.{false≢true}
use Rattle.nap_c.proofs.AnswerLemmas.{answers_uncounted, none_or_some, refused_at_end, refused_so_far, same_refusal}
use Rattle.nap_c.proofs.pieces.Check.finish.Goals as goal

-- the page is refused, before its end or there
pub returns-in-Err : goal.returns-in-Err
returns-in-Err c =
    λ budget p h.
    let reader = c.args.self.reader in
    let r = c.in-Err.stopped.refusal in
    let why : IsRefusal budget p (LacksToCount budget p) r =
    elim (none_or_some (refusal_of reader)) [
      | inl none ↦
          refused_at_end (λ d wants. wants) reader budget h.budget_is p h.has_read r c.in-Err.stopped.sink none (λ own. c.in-Err.ensures.err own _ p h.has_read)
          (λ apart. c.in-Err.ensures.breaks none apart _ p h.has_read) (λ is. false≢true (c.in-Err.ensures.failed none is))
      | inr before ↦
          let same : r ≡ before.0 =
          same_refusal c.finish.result c.in-Err.stopped (record { sink = sink_of reader; refusal = before.0 }) c.in-Err.is (c.finish.ensures.latched before.0 before.1) in
          let some : refusal_of reader ≡ Some r = before.1 ∙ ap Some (sym same) in
          subst (λ q. IsRefusal budget q (LacksToCount budget q) r) (append-nil p)
          (refused_so_far (λ d wants. wants) reader budget h.budget_is p h.has_read r some (h.sound r some) [])
    ] in
    answers_uncounted budget p r.fault r.place c.refused_answer.result why c.refused_answer.ensures
