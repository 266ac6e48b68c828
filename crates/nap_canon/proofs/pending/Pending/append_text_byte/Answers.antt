use Rattle.nap_canon.proofs.{AppendsPiece, CharSet, FormatEffector, None, Option, Piece, Primary, Some, TextStep, arith, backward, down, format_effector, format_effector_known, forward, home, primary, refl, return, rules, subst, sym, text_byte_piece, text_byte_piece_as, up, ℕ, ◌<◌, ◌≡◌, ◌≤◌}
use Rattle.nap_canon.proofs.pending.Pending.append_text_byte.Goals as goal

-- a format effector of one byte is below 20
low : {byte : ℕ} {step : TextStep} → FormatEffector byte step → byte < 0x20
low backward = omega arith
low forward = omega arith
low down = omega arith
low up = omega arith
low return = omega arith
low home = omega arith

-- so a byte from 20 on is a character
character : (code : ℕ) → 0x20 ≤ code → text_byte_piece Primary code ≡ primary code
character code high = by (format_effector code) refl
  where
    by : (step : Option TextStep) → format_effector code ≡ step → text_byte_piece_as step Primary code ≡ primary code
    by (Some step) is = absurd (omega (arith, high, low (format_effector_known code step is)))
    by None is = refl

pub returns-then-code-ge32 : goal.returns-then-code-ge32
returns-then-code-ge32 c =
    let w = c.args.self.now in
    let t = c.append_primary.new.self in
    let is : c.args.set ≡ Primary = search rules in
    subst (λ (set : CharSet). AppendsPiece (text_byte_piece set c.args.code) w t) (sym is)
    (subst (λ (p : Piece). AppendsPiece p w t) (sym (character c.args.code (omega (arith, c.if-code-ge32.true)))) c.append_primary.ensures)
