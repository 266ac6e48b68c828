use Rattle.nap_command.proofs.{CommandLemmas.prints_count, CommandLemmas.prints_text, MatchResult, PrintsBy, ap, refl, subst, sym, ◌∙◌}
use Rattle.nap_command.specs.Commands.{Denies}
use Rattle.nap_command.proofs.answer.answer_stream.Goals as goal

pub returns-in_ok-sink-in-Canon : goal.returns-in_ok-sink-in-Canon
returns-in_ok-sink-in-Canon c =
    let command = c.args.command.now in
    let begun = c.in_ok-sink-in-Canon.ensures in
    let empty = ap (λ u. u.writer.items) c.new-in-Canon-2.ensures ∙ c.new-in-Canon.ensures.items in
    subst (λ act. MatchResult c.print_text.result (λ a. PrintsBy act command c.args.stream.now a.text.items a.verdict) (Denies command c.args.stream.now)) (sym c.in-Canon.is)
    (prints_text _ c.new-in-Canon-2.result c.in_ok-sink-in-Canon.sink begun.0 begun.1 (λ u. u.writer.items) (λ u. refl) empty _ (λ t d k. k) command c.args.stream.now c.in-Canon.is command.hex c.read_stream-in-Canon.result c.print_text.result refl
    c.read_stream-in-Canon.ensures c.print_text.ensures)

pub returns-in-Check : goal.returns-in-Check
returns-in-Check c =
    subst (λ act. MatchResult c.print_count.result (λ a. PrintsBy act c.args.command.now c.args.stream.now a.text.items a.verdict) (Denies c.args.command.now c.args.stream.now))
    (sym c.in-Check.is) (prints_count _ c.new-in-Check.result (ap (λ t. t.count) c.new-in-Check.ensures) (λ t d k. k) (λ d k. k) (λ t. refl) c.args.command.now
    c.args.stream.now c.read_stream-in-Check.result c.print_count.result c.read_stream-in-Check.ensures c.print_count.ensures)
