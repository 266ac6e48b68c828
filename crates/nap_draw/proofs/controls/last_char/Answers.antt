use Rattle.nap_draw.proofs.{arith, format_effector_front}
use Rattle.nap_draw.proofs.controls.last_char.Goals as goal

pub returns-then-code-lt32 : goal.returns-then-code-lt32
returns-then-code-lt32 c = grind arith

pub returns : goal.returns
returns c = grind (arith, format_effector_front)
