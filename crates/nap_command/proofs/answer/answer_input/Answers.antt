use Rattle.nap_command.proofs.{Action, CommandLemmas.found_whole, CommandLemmas.prints_count, CommandLemmas.prints_text, Err, Failure, Ok, Verdict, ap, false, reading, refl, ◌∙◌}
use Rattle.nap_command.proofs.answer.answer_input.Goals as goal

pub returns-in_ok-read_input-in-Check-clause-found : goal.returns-in_ok-read_input-in-Check-clause-found
returns-in_ok-read_input-in-Check-clause-found g c =
    let (p, read, (whole, found)) = c.in_ok-read_input-in-Check.ensures.collected in
    let seen = reading g.I.Inlet c.args.input.now c.read_input-in-Check.new.input in (
      p,
      read,
      found_whole c.args.command.now p seen Action.Check c.in-Check.is c.requires.bytes whole c.print_count.result
          (prints_count _ c.new-in-Check.result (ap (λ t. t.count) c.new-in-Check.ensures) (λ t d k. k) (λ d k. k) (λ t. refl) c.args.command.now p c.in_ok-read_input-in-Check.field-0 c.print_count.result found c.print_count.ensures),
    )

pub returns-in-Ok-clause-found : goal.returns-in-Ok-clause-found
returns-in-Ok-clause-found g c =
    let (p, read, (whole, found)) = c.in_ok-sink-in-Canon-2.ensures.collected in
    let empty = ap (λ u. u.writer.items) c.new-in-Canon-2.ensures ∙ c.new-in-Canon.ensures.items in (
      p,
      read,
      found_whole c.args.command.now p (reading g.I.Inlet c.args.input.now c.read_input-in-Canon.new.input) Action.Canon c.in-Canon.is c.requires.bytes whole (Ok (record { text = c.into_inner.result; verdict = Verdict.Accepted }))
          (prints_text _ c.new-in-Canon-2.result c.in_ok-sink-in-Canon.sink c.in_ok-sink-in-Canon.ensures.0 c.in_ok-sink-in-Canon.ensures.1 (λ u. u.writer.items) (λ u. refl) empty _ (λ t d k. k) c.args.command.now p c.in-Canon.is false c.in_ok-sink-in-Canon-2.field-0 (Ok (record { text = c.into_inner.result; verdict = Verdict.Accepted })) c.requires.bytes found (rw c.in-Ok.is (rw (c.into_inner.ensures, c.close.ensures) refl, refl))),
    )

pub returns-in-Err-clause-found : goal.returns-in-Err-clause-found
returns-in-Err-clause-found g c =
    let (p, read, (whole, found)) = c.in_ok-sink-in-Canon-2.ensures.collected in
    let empty = ap (λ u. u.writer.items) c.new-in-Canon-2.ensures ∙ c.new-in-Canon.ensures.items in (
      p,
      read,
      found_whole c.args.command.now p (reading g.I.Inlet c.args.input.now c.read_input-in-Canon.new.input) Action.Canon c.in-Canon.is c.requires.bytes whole (Err (Failure.Refused c.refusal_of_text.result))
          (prints_text _ c.new-in-Canon-2.result c.in_ok-sink-in-Canon.sink c.in_ok-sink-in-Canon.ensures.0 c.in_ok-sink-in-Canon.ensures.1 (λ u. u.writer.items) (λ u. refl) empty _ (λ t d k. k) c.args.command.now p c.in-Canon.is false c.in_ok-sink-in-Canon-2.field-0 (Err (Failure.Refused c.refusal_of_text.result)) c.requires.bytes found (rw c.in-Err.is (ap (λ r. Err (Failure.Refused r)) c.refusal_of_text.ensures))),
    )
