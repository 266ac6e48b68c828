use Rattle.nap_reader.proofs.{Ends, EndsRun, IsTaken, Lawful, List, None, Option, Outcome, Refusal, Some, HasRead, ap, begun, body_ended, cause_of, device, ended_is, false, reading_state, IfErr-weaker, leads_unrefused, means, on_ok_weaker, own_spares, run_breaks, run_refused, stream, subst, sym, true, with_code, with_run, ℕ, ◌∙◌, ◌≡◌}
use Rattle.nap_reader.proofs.reader.Reader.end.Goals as goal
use Rattle.nap_reader.proofs.reader.Reader.end.Goals.{After-check_finished}

pub returns-in-Some-body-clause-refused : goal.returns-in-Some-body-clause-refused
returns-in-Some-body-clause-refused g c = λ own s p h.
    body_ended c.args.self.now.input.budget p c.args.self.now.input.fed (h.continues c.in_default.is) c.in-Some-body.is (h.fed c.in_default.is)

pub returns-in-Err-clause-refused : goal.returns-in-Err-clause-refused
returns-in-Err-clause-refused g c = λ own s p h.
    run_refused c.args.self.now.input.budget p (h.continues c.in_default.is) (c.in-Err.ensures.ends.0 (reading_state c.args.self.now) c.in_default-body.is) own

pub returns-in-Err-clause-breaks : goal.returns-in-Err-clause-breaks
returns-in-Err-clause-breaks g c = λ live broke s p h.
    let laws : Lawful g.S.Sink = record { more = g.met.S.Sink.took_more; broken = g.met.S.Sink.took_broke; wants = g.met.S.Sink.wants_more; none = g.met.S.Sink.took_none } in
    run_breaks c.args.self.now.input.budget p (h.continues c.in_default.is) laws (c.in-Err.ensures.ends.0 (reading_state c.args.self.now) c.in_default-body.is) broke

-- the entries of the stream's meaning were taken
settled : (g : _) (c : After-check_finished g) → EndsRun {S = g.row.S.Denot} {g = g.S.Sink} c.args.self.now.machine c.end_run.new.self → (answer : Option Refusal) →
    ((s : g.row.S.Denot) (o : Outcome) → Ends g.S.Sink s o c.end_run.new.self.sink c.end_run.new.self.work c.end_run.new.self.lexer.half → IsTaken g.S.Sink s (with_code o c.args.self.now.input.fed o.unfinished) c.check_finished.new.self.machine.sink answer) →
    (s : g.row.S.Denot) (p : List ℕ) → HasRead {S = g.row.S.Denot} {g = g.S.Sink} c.args.self.now s p → IsTaken g.S.Sink s (means c.args.self.now.input.budget p) c.check_finished.new.self.machine.sink answer
settled g c ends answer so s p h =
    let r = c.args.self.now in
    let k = h.continues c.in_default.is in
    let e = ends (reading_state r) c.in_default-body.is s r.input.budget p k in
    subst (λ (o : Outcome). IsTaken g.S.Sink s o c.check_finished.new.self.machine.sink answer) (ended_is r.input.budget p r.input.fed (leads_unrefused k) e (h.fed c.in_default.is)) (so s (with_run (begun r.input.budget p)) e)

pub returns-clause-ended : goal.returns-clause-ended
returns-clause-ended g c =
    on_ok_weaker c.check_finished.result (settled g (goal.at.returns-clause-ended g c).After-check_finished c.in_default-end_run.ensures.ends None) c.check_finished.ensures.ended

pub returns-clause-refused : goal.returns-clause-refused
returns-clause-refused g c =
    IfErr-weaker c.check_finished.result _ _ (λ f so own. settled g (goal.at.returns-clause-refused g c).After-check_finished c.in_default-end_run.ensures.ends (Some f) so.1) c.check_finished.ensures.refused

pub returns-clause-failed : goal.returns-clause-failed
returns-clause-failed g c =
    IfErr-weaker c.check_finished.result _ _ (λ f so live broken. let bad : device ≡ stream = sym (ap cause_of broken) ∙ so.0 in cc) c.check_finished.ensures.refused

pub returns-clause-kept : goal.returns-clause-kept
returns-clause-kept g c =
    IfErr-weaker c.check_finished.result _ _ (λ f so working fails. let bad : true ≡ false = sym fails ∙ ap g.S.Sink.failed c.check_finished.ensures.sink ∙ c.in_default-end_run.ensures.works.clear working in cc) c.check_finished.ensures.refused

pub returns-clause-clear : goal.returns-clause-clear
returns-clause-clear g c =
    on_ok_weaker c.check_finished.result (λ so working. ap g.S.Sink.failed c.check_finished.ensures.sink ∙ c.in_default-end_run.ensures.works.clear working) c.check_finished.ensures.ended

pub returns-in-Err-clause-lacks : goal.returns-in-Err-clause-lacks
returns-in-Err-clause-lacks g c = λ live spared. c.in-Err.ensures.ends.2 spared

pub returns-clause-lacks : goal.returns-clause-lacks
returns-clause-lacks g c = IfErr-weaker c.check_finished.result _ _ (λ f so live spared. own_spares so.0) c.check_finished.ensures.refused
