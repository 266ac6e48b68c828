use Rattle.nap_reader.proofs.{kept_as, IsRuled, [], acts, ap, arith, binds, fault_takes, front_made, get_or, half_takes, kind_of, opcode_read, refl, rested, strays_takes, takes_none, takes_then, begins_one, whole_call, whole_nothing, whole_ruled, whole_stops, ◌∙◌, ◌≡◌, EndsCode}
use Rattle.nap_reader.proofs.machine.Machine.any_byte.Goals as goal
use Rattle.nap_reader.proofs.machine.Machine.any_byte.Goals.{After-control, In-Code}

-- The byte ends the code.
ends : (g : _) (c : In-Code g) → EndsCode c.args.self.now.lexer.sets c.args.self.now.lexer.half c.args.self.now.open_run (get_or c.args.slice.now.bytes.now c.args.at 0) c.in-Code.code c.step.new.self.sets
ends g c = grind arith

pub returns-in-More-clause-takes : goal.returns-in-More-clause-takes
returns-in-More-clause-takes g c = rw c.took.ensures (1, refl, half_takes (grind arith) (grind arith) refl c.requires.live)

pub returns-in-Fault-clause-takes : goal.returns-in-Fault-clause-takes
returns-in-Fault-clause-takes g c =
    let kept = rw (c.from.ensures, c.place_of.ensures) at c.stop.ensures.kept in
    rw c.stop.ensures.answer (0, omega arith, fault_takes c.in-Fault.fault (grind arith) c.requires.closed kept.is kept.sink)

pub open-requires-clause-is : goal.open-requires-clause-is
open-requires-clause-is g c =
    let read = opcode_read (ends g (goal.at.open-requires-clause-is g c).In-Code) (ap kind_of c.in-Op.is) in
    let none : c.step.new.self.half ≡ [] = grind arith in
    rw none read.1

pub returns-in-Op-clause-takes : goal.returns-in-Op-clause-takes
returns-in-Op-clause-takes g c =
    let (n, is, takes) = c.open.ensures.takes in
    let lexer : c.step.new.self ≡ rested c.step.new.self.sets = grind arith in
    let read = lexer ∙ (opcode_read (ends g (goal.at.returns-in-Op-clause-takes g c).In-Code) (ap kind_of c.in-Op.is)).0 in
    (n, is, takes_then (takes_none (record { before = c.requires.closed; closed = c.requires.closed; work_is = refl; lexer_is = read; kept = kept_as refl refl }) refl c.requires.live) takes (omega arith))

pub returns-in-Operand-clause-takes : goal.returns-in-Operand-clause-takes
returns-in-Operand-clause-takes g c =
    let kept = rw c.place_of-in-Operand.ensures at c.stop-in-Operand.ensures.kept in
    rw c.stop-in-Operand.ensures.answer (0, omega arith, strays_takes (ends g (goal.at.returns-in-Operand-clause-takes g c).In-Code) (ap kind_of c.in-Operand.is) kept.is kept.sink)

pub returns-in-Fill-clause-takes : goal.returns-in-Fill-clause-takes
returns-in-Fill-clause-takes g c =
    rw c.took-in-Fill.ensures (1, refl, whole_nothing (begins_one (ends g (goal.at.returns-in-Fill-clause-takes g c).In-Code)) refl (grind arith) (grind arith) refl c.requires.live)

pub returns-in-Call-clause-takes : goal.returns-in-Call-clause-takes
returns-in-Call-clause-takes g c = rw c.took-in-Call.ensures (1, refl, whole_call (begins_one (ends g (goal.at.returns-in-Call-clause-takes g c).In-Code)) refl (ap kind_of c.in-Call.is) (grind arith) refl c.requires.live)

pub control-requires-clause-made : goal.control-requires-clause-made
control-requires-clause-made g c =
    let same : c.match-code.code ≡ c.in-Code.code = grind arith in
    rw same (front_made _ _ c.in-Code.code _ _ (ends g (goal.at.control-requires-clause-made g c).In-Code).whole)

-- The code draws by a rule.
ruled : (g : _) (c : After-control g) → IsRuled c.in-Code.code c.match-code.request
ruled g c = grind (arith, acts, binds)

pub returns-in-Ok-clause-takes : goal.returns-in-Ok-clause-takes
returns-in-Ok-clause-takes g c =
    let acted = c.in-Ok.ensures.acts in
    rw c.took-in-Ok.ensures (1, refl, whole_ruled (begins_one (ends g (goal.at.returns-in-Ok-clause-takes g c).In-Code)) {entries = acted.0} refl (ruled g (goal.at.returns-in-Ok-clause-takes g c).After-control) (grind arith) (grind arith) (grind arith) g.met.S.Sink.took_more g.met.S.Sink.wants_more)

pub returns-in-Err-clause-takes : goal.returns-in-Err-clause-takes
returns-in-Err-clause-takes g c =
    let kept = rw (c.from-in-Err.ensures, c.place_of-in-Err.ensures) at c.stop-in-Err.ensures.kept in
    rw c.stop-in-Err.ensures.answer (0, omega arith, whole_stops (begins_one (ends g (goal.at.returns-in-Err-clause-takes g c).In-Code)) {fault = c.in-Err.fault} refl (ruled g (goal.at.returns-in-Err-clause-takes g c).After-control) (grind arith) (grind arith) kept.is kept.sink)
