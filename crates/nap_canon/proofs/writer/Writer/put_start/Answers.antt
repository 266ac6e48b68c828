use Rattle.nap_canon.proofs.{State, ap, batch_entries, batch_is_current, sym, take, walk, ◌∙◌}
use Rattle.nap_canon.proofs.writer.Writer.put_start.Goals as goal

pub returns : goal.returns
returns g c =
    let w = c.args.self.now in
    let list = batch_entries c.args.batch.now in
    let put = c.write_with_more-put in
    record {
      sent = put.ensures.sends (record { text_end = w.pending.text_end; bytes = c.clear.new.self }) c.clear.ensures (c.append_start.ensures w.state (sym c.drawing.ensures)) (batch_is_current c.args.batch.now w.state);
      form = put.ensures.kept.0;
      state = c.step_batch.ensures ∙ ap (λ (s : State). walk s (take c.put_count.result list)) put.ensures.kept.1 ∙ ap (λ n. walk w.state (take n list)) c.put_count.ensures;
    }
