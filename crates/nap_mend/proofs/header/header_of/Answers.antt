use Rattle.std.proofs.Common.{List, ap, arith, drop, length, length-drop, subst, suc, sym, ℕ, ◌+◌, ◌-◌, ◌∙◌, ◌≡◌, ◌≤◌}
use Rattle.std.proofs.lemmas.Bool.{le-ltb, lt-ltb}
use Rattle.std.proofs.lemmas.List.{take_rest}
use Rattle.nap_mend.specs.Codes.{lead_length}
use Rattle.nap_mend.specs.Headers.{header_with, header_within}
use Rattle.nap_mend.proofs.LeadLemmas.{header_ends, header_goes, header_stops}
use Rattle.nap_mend.proofs.header.header_of.Goals as goal

pub returns-then-header-bytes : goal.returns-then-header-bytes
returns-then-header-bytes c =
    let p = c.args.bytes.now in
    let h = c.loop.header in
    let m = length p - (c.loop.counter + 1) in
    let is : length p - c.loop.counter ≡ suc m = omega arith in
    sym (header_stops p (length p - c.loop.counter) m h is (le-ltb h.end (length p) c.if-header-bytes.true)) ∙ c.loop.invariant.0

pub loop-preserved : goal.loop-preserved
loop-preserved c =
    let p = c.args.bytes.now in
    let h = c.loop.header in
    let m = length p - (c.loop.counter + 1) in
    let is : length p - c.loop.counter ≡ suc m = omega arith in
    let n = c.lead_length-count.result in
    let count : n ≡ lead_length (drop h.end p) = c.lead_length-count.ensures.value ∙ ap lead_length (take_rest p h.end) in
    let within : n ≤ length (drop h.end p) = subst (λ (q : List ℕ). n ≤ length q) (take_rest p h.end) c.lead_length-count.ensures.within in
    let next = c.header_with-header.ensures.value ∙ ap (header_with p h) count in
    let size : length (drop h.end p) ≡ length p - h.end = length-drop h.end p in (
      ap (header_within p m) next
          ∙ sym (header_goes p (length p - c.loop.counter) m h is (lt-ltb h.end (length p) (omega (arith, c.if-header-bytes.false))))
          ∙ c.loop.invariant.0,
      c.header_with-header.ensures.within,
    )

pub returns : goal.returns
returns c =
    let p = c.args.bytes.now in
    let none : length p - c.loop.counter ≡ 0 = omega arith in
    sym (header_ends p (length p - c.loop.counter) c.loop.header none) ∙ c.loop.invariant.0
