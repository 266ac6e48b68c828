use Rattle.nap_make.proofs.{FeedLemmas.keeps_prefix, List, [], ap, append-nil, arith, eqb-false, eqb-true, err_from_is_err_and, inl, inr, length, length-append, length-take-le, longest_line, nil_from_length, sym, take, common_steps, ◌++◌, ◌<◌, ◌-◌, ◌∙◌, ◌≡◌, ◌≤◌, ◌⊎◌, ℕ}
use Rattle.nap_make.proofs.lines.reader.LineReader.keep_part.Goals as goal

pub returns-then-is_empty-clause-part : goal.returns-then-is_empty-clause-part
returns-then-is_empty-clause-part g c =
    let part = c.args.self.now.part.items in
    let none = nil_from_length c.args.bytes.now (eqb-true _ 0 (sym c.is_empty.ensures ∙ c.if-is_empty.true)) in
    sym (ap (part ++◌) none ∙ append-nil part)

-- without memory for a line no bytes of one are kept
first_part : {part : List ℕ} {memory : ℕ} → (part ≡ []) ⊎ (longest_line < memory) → memory ≤ longest_line → part ≡ []
first_part (inl empty) less = empty
first_part (inr more) less = absurd (omega (arith, more, less))

pub returns-in_err-reserve-clause-keeps : goal.returns-in_err-reserve-clause-keeps
returns-in_err-reserve-clause-keeps g c =
    let part = c.args.self.now.part.items in
    let e = err_from_is_err_and c.from_residual.result c.from_residual.ensures.1 in
    let some = eqb-false _ 0 (sym c.is_empty.ensures ∙ c.if-is_empty.false) in
    rw (e.1, e.2) (λ s es holds. (
      omega (arith, some, length-append part c.args.bytes.now),
      inl (first_part c.requires.0.memory (omega (arith, c.in_err-reserve.ensures.full, c.len.ensures, c.requires.0.short))),
      holds.kept,
    ))

pub returns-in_err-extend_from_slice-clause-keeps : goal.returns-in_err-extend_from_slice-clause-keeps
returns-in_err-extend_from_slice-clause-keeps g c =
    let kept = length-take-le c.min-kept.result c.args.bytes.now (grind (arith, common_steps)) in
    let room : c.min-kept.result ≤ 32113 - c.len.result = grind (arith, common_steps) in
    absurd (omega (arith, room, kept, c.in_err-extend_from_slice.ensures.full, c.in_ok-reserve.ensures.ok, c.len.ensures, c.requires.0.short))

pub returns-then-len-gt-LONGEST_LINE-clause-keeps : goal.returns-then-len-gt-LONGEST_LINE-clause-keeps
returns-then-len-gt-LONGEST_LINE-clause-keeps g c s es holds =
    let long : longest_line < length c.as_slice.result.now = omega (arith, c.if-len-gt-LONGEST_LINE.true, c.len-2.ensures, ap length c.as_slice.ensures.value) in
    keeps_prefix g.S.Sink c.args.self.now.part.items c.args.bytes.now c.min-kept.result c.unended_line_fault.result
    (c.as_slice.ensures.value ∙ c.in_ok-extend_from_slice.ensures.items ∙ ap (◌++ take c.min-kept.result c.args.bytes.now) c.in_ok-reserve.ensures.items) c.requires.0.whole c.requires.1 long holds
    (c.unended_line_fault.ensures s es holds)
