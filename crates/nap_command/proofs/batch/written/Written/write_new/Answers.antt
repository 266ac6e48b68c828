use Rattle.nap_command.proofs.{LineLemmas.all_known, LineLemmas.none_left, LineLemmas.one_less, ap, append-nil, arith, drop, length, length-drop, lines_on, refl, sym, take, take_all, ◌++◌, ◌+◌, ◌-◌, ◌∙◌, ◌≡◌, ◌≤◌}
use Rattle.nap_command.proofs.batch.written.Written.write_new.Goals as goal

pub loop-self-init : goal.loop-self-init
loop-self-init c = record { near = omega arith; goes = λ es k. (es, k, refl, refl) }

pub loop-self-preserved : goal.loop-self-preserved
loop-self-preserved c =
    let all = c.args.lines.now in
    let step = c.args.step in
    let known = c.loop-self.self.known in
    let at = c.loop-self.at in
    let inv = c.loop-self.invariant in
    let size = c.first_line_len-size.result in
    let rest = take (length all - known) (drop known all) in
    let part = take size rest in
    let less = c.loop-self-test.true in
    let cut : rest ≡ drop known all = take_all (length all - known) (drop known all) (omega (arith, length-drop known all)) in
    record {
      near = omega (arith, inv.near, c.first_line_len-size.ensures.some, c.requires.near);
      goes = λ es k.
          let (left, new, text, count) = inv.goes es k in
          let o = one_less known size all at step rest part cut refl less c.first_line_len-size.ensures.first left new in (
            o.further,
            o.new,
            ap (◌++ lines_on (at + step) step o.further) (c.in_ok-extend_from_slice.ensures.items ∙ ap (◌++ part) c.in_ok-write_place.ensures)
                ∙ (o.text c.loop-self.self.text.items ∙ text),
            omega (arith, count, o.count),
          );
    }

pub returns : goal.returns
returns c = λ es k.
    let all = c.args.lines.now in
    let known = c.loop-self.self.known in
    let at = c.loop-self.at in
    let old = c.loop-self.self.text.items in
    let (left, new, text, count) = c.loop-self.invariant.goes es k in
    let most : length all ≤ known = omega (arith, c.loop-self-test.false) in
    let none = none_left left new most in
    record {
      text = sym (append-nil old) ∙ (ap (λ es. old ++ lines_on at c.args.step es) (sym none) ∙ text);
      count = omega (arith, count, ap length none);
      known = all_known new most;
    }
