use Rattle.nap_draw.proofs.{Code, Execution.obeys_quietly, Ok, [], ap, code_rule, refl, rule_result, ◌≡◌}
use Rattle.nap_draw.proofs.work.Work.apply_control.Goals as goal

pub returns-in-Named : goal.returns-in-Named
returns-in-Named g c = obeys_quietly (g.met.S.Sink.took_none _) (ap (code_rule c.args.self.now) c.in-Named.is)

pub returns-in-Reverse : goal.returns-in-Reverse
returns-in-Reverse g c = obeys_quietly (g.met.S.Sink.took_none _) (ap (code_rule c.args.self.now) c.in-Reverse.is)

pub returns-in-Underline : goal.returns-in-Underline
returns-in-Underline g c = obeys_quietly (g.met.S.Sink.took_none _) (ap (code_rule c.args.self.now) c.in-Underline.is)

pub returns-in-Wrap : goal.returns-in-Wrap
returns-in-Wrap g c = obeys_quietly (g.met.S.Sink.took_none _) (ap (code_rule c.args.self.now) c.in-Wrap.is)

pub returns-in-Scroll : goal.returns-in-Scroll
returns-in-Scroll g c = obeys_quietly (g.met.S.Sink.took_none _) (ap (code_rule c.args.self.now) c.in-Scroll.is)

pub returns-in_default : goal.returns-in_default
returns-in_default g c = obeys_quietly (g.met.S.Sink.took_none _) (other c.args.code.now refl)
  where
    other : (code : Code) → c.args.code.now ≡ code → code_rule c.args.self.now code ≡ Ok (rule_result c.args.self.now [])
    other Code.Bell is = absurd (c.in_default.not-Bell is)
    other (Code.Step x) is = absurd (c.in_default.not-Step x is)
    other Code.Clear is = absurd (c.in_default.not-Clear is)
    other (Code.Char x y) is = absurd (c.in_default.not-Char x y is)
    other (Code.Repeat x) is = absurd (c.in_default.not-Repeat x is)
    other Code.ToEol is = absurd (c.in_default.not-ToEol is)
    other (Code.Named x) is = absurd (c.in_default.not-Named x is)
    other (Code.Reverse x) is = absurd (c.in_default.not-Reverse x is)
    other (Code.Underline x) is = absurd (c.in_default.not-Underline x is)
    other (Code.Wrap x) is = absurd (c.in_default.not-Wrap x is)
    other (Code.Scroll x) is = absurd (c.in_default.not-Scroll x is)
    other (Code.BlinkMark x) is = absurd (c.in_default.not-BlinkMark x is)
    other (Code.Cursor x) is = absurd (c.in_default.not-Cursor x is)
    other (Code.DefGlyph x) is = absurd (c.in_default.not-DefGlyph x is)
    other (Code.DefMask x) is = absurd (c.in_default.not-DefMask x is)
    other (Code.DefMacro x y) is = absurd (c.in_default.not-DefMacro x y is)
    other Code.End is = absurd (c.in_default.not-End is)
    other _ is = refl
