use Rattle.nap_command.proofs.{Appends-nil, CommandLemmas.ends_printing, CommandLemmas.ends_whole, Consumes, Consumes-nil, Err, Fails, Failure, Finds, List, MatchResult, [], arith, execution.execute.Goals.else-command-3, execution.execute.Goals.then-command-3, false, inl, inr, reading, reads_limit, refl, rules, sym, true, ℕ, ◌+◌, ◌∙◌, ◌≡◌, ◌≤◌}
use Rattle.nap_command.proofs.execution.execute.Goals as goal

-- hexadecimal text isn't converted
pub returns-then-command-2 : goal.returns-then-command-2
returns-then-command-2 g c =
    let (e, reported, tells) = c.report_end.ensures in
    record {
      p = [];
      q = [];
      e = e;
      ended = Err Failure.Excluded;
      read = Consumes-nil _;
      printed = Appends-nil _;
      reported = reported;
      few = omega arith;
      ends = rw (c.if-command.true, c.if-command-2.true) (record { nothing = refl; unread = omega arith; none_failed = refl; unprinted = refl; works = c.requires.works; ended_is = refl });
      stops = λ _ bytes. let bad : true ≡ false = sym c.if-command-2.true ∙ bytes in let none : ⊥ = cc in absurd none;
      sends = λ _. inr refl;
      flushes = rw (c.if-command.true, c.if-command-2.true) refl;
      tells = tells;
    }

pub returns : goal.returns
returns g c =
    let I = g.I.Inlet in
    let command = c.args.command.now in
    let seen = reading I c.args.input.now c.if-command-3.input in
    let (few, (p, read, finds)) : (I.calls c.if-command-3.input ≤ I.calls c.args.input.now + reads_limit) × ((p : List ℕ) × Consumes (I.left c.args.input.now) (I.left c.if-command-3.input) p
    × MatchResult c.if-command-3.found (λ a. Finds command p seen a.text.items a.verdict) (Fails command p seen)) =
    elim c.if-command-3.branch [
      | then-command-3 w ↦ rw (w.input-is, w.found-is) (w.answer_text-found.ensures.few, w.answer_text-found.ensures.found)
      | else-command-3 w ↦ rw (w.input-is, w.found-is) (w.answer_input-found.ensures.few, w.answer_input-found.ensures.found)
    ] in
    let (q, sent, printed) = c.print_found-output.ensures.ends in
    let (e, reported, tells) = c.report_end-2.ensures in
    let failed = g.O.Outlet.failed c.print_found-output.result.0 in
    let ended = c.print_found-output.result.1 in
    let ends = ends_printing (Finds command p seen) (Fails command p seen) c.if-command-3.found q failed ended finds printed in
    record {
      p = p;
      q = q;
      e = e;
      ended = ended;
      read = read;
      printed = sent;
      reported = reported;
      few = few;
      ends = ends_whole command p seen q failed ended ends c.if-command.false (λ is. search rules);
      stops = λ streams. cc (c.if-command.false, streams);
      sends = λ works. inl (c.print_found-output.ensures.sends works);
      flushes = rw c.if-command.false c.print_found-output.ensures.flushes;
      tells = tells;
    }
