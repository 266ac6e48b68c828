use Rattle.nap_canon.proofs.{LexerState, arith, plain.is_plain.Goals.in-Code+in-Some, plain.is_plain.Goals.in-More, subst, sym, ◌∙◌}
use Rattle.nap_canon.proofs.PlainCodes.{Checked, checked_code, checked_end, checked_more, checked_start, refused_byte, refused_code, start_check}
use Rattle.nap_canon.proofs.plain.is_plain.Goals as goal

pub loop-byte-init : goal.loop-byte-init
loop-byte-init c = subst (λ (lexer : LexerState). Checked c.args.bytes.now 0 lexer start_check) (sym c.new-lexer.ensures) (checked_start c.args.bytes.now)

pub returns-in-Fault : goal.returns-in-Fault
returns-in-Fault c = (
  λ is. cc,
  λ plain. absurd (refused_byte c.args.bytes.now c.loop-byte.byte-index c.loop-byte.lexer c.step.new.self c.loop-byte.check
      c.loop-byte.invariant c.loop-byte-test.true c.in-Fault.field-0 c.in-Fault.ensures.steps plain),
)

pub returns-in-None : goal.returns-in-None
returns-in-None c = (
  λ is. cc,
  λ plain. absurd (refused_code c.args.bytes.now c.loop-byte.byte-index c.loop-byte.lexer c.step.new.self c.loop-byte.check
      c.loop-byte.invariant c.loop-byte-test.true c.in-Code.code c.in-Code.ensures.steps (sym c.in-None.ensures) plain),
)

pub loop-byte-preserved : goal.loop-byte-preserved
loop-byte-preserved c = grind (arith, checked_more, checked_code)

pub returns-then-at_rest : goal.returns-then-at_rest
returns-then-at_rest c =
    let end = checked_end c.args.bytes.now c.loop-byte.byte-index c.loop-byte.lexer c.loop-byte.check c.loop-byte.invariant (omega (arith, c.loop-byte-test.false)) in
    let half = c.at_rest.ensures.rests.0 c.if-at_rest.true in
    (λ is. end.0 (half, sym c.may_end.ensures ∙ is), λ plain. c.may_end.ensures ∙ (end.1 plain).1)

pub returns-else-at_rest : goal.returns-else-at_rest
returns-else-at_rest c =
    let end = checked_end c.args.bytes.now c.loop-byte.byte-index c.loop-byte.lexer c.loop-byte.check c.loop-byte.invariant (omega (arith, c.loop-byte-test.false)) in
    (λ is. cc, λ plain. c.at_rest.ensures.rests.1 (end.1 plain).0)
