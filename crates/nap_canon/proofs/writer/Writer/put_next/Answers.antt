use Rattle.nap_canon.proofs.{Drawing, JoinedEntries.current_appended, JoinedEntries.then_current, Pending, SpellsNext, State, ap, batch_entries, drop, subst, take, walk, ◌∙◌}
use Rattle.nap_canon.proofs.writer.Writer.put_next.Goals as goal

pub returns : goal.returns
returns g c =
    let w = c.args.self.now in
    let before : Pending = record { text_end = w.pending.text_end; bytes = c.clear.new.self } in
    let r = c.append_spelling_at.new.self in
    let list = drop c.args.index (batch_entries c.args.batch.now) in
    let put = c.write_with_more-put in
    record {
      sent = put.ensures.sends before c.clear.ensures
          (current_appended w.form w.state list before r c.requires.current (subst (λ (d : Drawing). SpellsNext w.form d list before r) c.drawing.ensures c.append_spelling_at.ensures))
          (then_current w.state list c.requires.current);
      form = put.ensures.kept.0;
      state = c.step_from.ensures ∙ ap (λ (s : State). walk s (take c.put_count.result list)) put.ensures.kept.1 ∙ ap (λ n. walk w.state (take n list)) c.put_count.ensures;
    }
