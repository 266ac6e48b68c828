use Rattle.nap_values.proofs.{DigitLemmas.IsRestAt-more, DigitLemmas.digits_of-more, addr_bytes, ap, append-nil, append_assoc, arith, digits_of, sym, ◌+◌, ◌-◌, ◌∙◌, ◌≡◌}
use Rattle.nap_values.proofs.operand.put_addr.Goals as goal

pub loop-i-preserved : goal.loop-i-preserved
loop-i-preserved c =
    let l = c.loop-i in
    let split = digits_of-more 64 4 l.i l.unit l.rest l.invariant.at (omega arith) c.loop-i-test.true in
    record {
      at = IsRestAt-more 64 4 l.i l.unit l.rest l.invariant.at (omega arith) c.loop-i-test.true;
      len = c.push.ensures.len ∙ ap (λ n. n + 1) l.invariant.len;
      bytes = rw (c.push.ensures.items, append_assoc) (rw split at l.invariant.bytes);
    }

pub returns : goal.returns
unfolding digits_of addr_bytes
returns c =
    let left : 4 - c.loop-i.i ≡ 0 = omega arith in
    sym (append-nil _) ∙ rw left at c.loop-i.invariant.bytes
