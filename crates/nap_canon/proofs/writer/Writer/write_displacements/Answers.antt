use Rattle.nap_canon.proofs.{List, Texts.displacements_part, Texts.sent_second, ap, append-nil, arith, chunks_rest, displacement_bytes, err_from_is_err_and, false, last_point, nil_from_length, refl, take_all, ℕ, ◌++◌, ◌∙◌, ◌≡◌}
use Rattle.nap_canon.proofs.writer.Writer.write_displacements.Goals as goal

pub loop-chunk-init : goal.loop-chunk-init
loop-chunk-init g c = grind arith

pub loop-chunk-preserved : goal.loop-chunk-preserved
loop-chunk-preserved g c =
    let inv = c.loop-chunk.invariant in
    let so_far = inv.sent in
    let steps = c.in-Some.ensures.steps in
    let piece = c.as_slice.result.now in
    let part = c.in-Some.chunk.now in
    let last : c.line_start-from.result ≡ last_point c.loop-chunk.from part =
    c.line_start-from.ensures ∙ ap (last_point c.loop-chunk.from) (take_all _ part (omega arith)) in
    record {
      can = omega (arith, steps.0, inv.can);
      finite = tt;
      size = steps.0 ∙ inv.size;
      sent = (
        so_far.0 ++ piece,
        g.met.T.ByteSink.sent_more c.args.self.now.target c.loop-chunk.self.target c.write_all.new.self so_far.0 piece false so_far.1 c.in_ok-write_all.ensures,
        displacements_part so_far.0 piece (displacement_bytes c.args.first c.args.others.now) c.loop-chunk.from c.line_start-from.result _ c.in-Some.chunk.now (chunks_rest c.next.new.self)
            steps.1.0 (c.as_slice.ensures ∙ c.append_displacements.ensures.bytes ∙ ap (λ (bs : List ℕ). bs ++ displacement_bytes c.loop-chunk.from c.in-Some.chunk.now) c.clear.ensures) last so_far.2,
      );
      text_end = inv.text_end;
      kept = inv.kept;
    }

pub returns-in_err-write_all : goal.returns-in_err-write_all
returns-in_err-write_all g c =
    let so_far = c.loop-chunk.invariant.sent in
    let piece = c.as_slice.result.now in
    let whole = displacement_bytes c.args.first c.args.others.now in
    let from = c.loop-chunk.from in
    let part = c.in-Some.chunk.now in
    let failure = err_from_is_err_and c.from_residual.result c.from_residual.ensures.1 in
    rw failure.1 (record {
      sent = sent_second g.T.ByteSink.sent g.met.T.ByteSink.sent_more g.met.T.ByteSink.sent_cut _
          (displacements_part so_far.0 piece whole from (last_point from part) _ part (chunks_rest c.next.new.self) c.in-Some.ensures.steps.1.0 (c.as_slice.ensures ∙ c.append_displacements.ensures.bytes ∙ ap (λ (bs : List ℕ). bs ++ displacement_bytes c.loop-chunk.from c.in-Some.chunk.now) c.clear.ensures) refl so_far.2)
          so_far.1 c.in_err-write_all.ensures;
      text_end = c.loop-chunk.invariant.text_end;
      kept = c.loop-chunk.invariant.kept;
    })

pub returns : goal.returns
unfolding displacement_bytes
returns g c = grind (arith, nil_from_length, append-nil)
