use Rattle.nap_codes.proofs.{LexerLemmas.half_unfinished, LexerLemmas.turn-Steps, LexerLemmas.turn_more-IsHalfRead, front, refl}
use Rattle.nap_codes.proofs.lexer.Lexer.step.Goals as goal

pub returns-in-More-clause-steps : goal.returns-in-More-clause-steps
returns-in-More-clause-steps c =
    rw (← c.self.view_is) (turn-Steps _ _ _ _ c.self.invariant.0 c.in-More.ensures)

pub returns-in-More-clause-before : goal.returns-in-More-clause-before
returns-in-More-clause-before c = rw (← c.self.view_is) (half_unfinished _ _ c.self.invariant.0)

pub returns-in-More-clause-after : goal.returns-in-More-clause-after
returns-in-More-clause-after c =
    half_unfinished _ _ (turn_more-IsHalfRead c.self.inside.sets c.self.inside.half c.args.byte _ c.in-More.ensures)

pub returns-in-Code-clause-steps : goal.returns-in-Code-clause-steps
returns-in-Code-clause-steps c =
    rw (← c.self.view_is) (turn-Steps _ _ _ _ c.self.invariant.0 c.in-Code.ensures)

pub returns-in-Code-clause-before : goal.returns-in-Code-clause-before
returns-in-Code-clause-before c = rw (← c.self.view_is) (half_unfinished _ _ c.self.invariant.0)

pub returns-in-Code-clause-after : goal.returns-in-Code-clause-after
unfolding front
returns-in-Code-clause-after c = refl

pub returns-in-Fault-clause-steps : goal.returns-in-Fault-clause-steps
returns-in-Fault-clause-steps c =
    rw (← c.self.view_is) (turn-Steps _ _ _ _ c.self.invariant.0 c.in-Fault.ensures)

pub returns-in-Fault-clause-before : goal.returns-in-Fault-clause-before
returns-in-Fault-clause-before c = rw (← c.self.view_is) (half_unfinished _ _ c.self.invariant.0)

pub returns-in-Fault-clause-after : goal.returns-in-Fault-clause-after
returns-in-Fault-clause-after c = rw (← c.self.view_is) (half_unfinished _ _ c.self.invariant.0)
