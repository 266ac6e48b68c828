use Rattle.nap_reader.proofs.{alone_nothing, arith, drop, drop_more, found_call, get_or, kept_as, refl, rested, rules, take_rest, ◌+◌, ◌≡◌}
use Rattle.nap_reader.proofs.Common.{Code}
use Rattle.nap_reader.proofs.machine.Machine.code.Goals as goal

pub opcode-requires-clause-is : goal.opcode-requires-clause-is
opcode-requires-clause-is g c = rw (take_rest c.args.bytes.now c.args.at, drop_more c.args.bytes.now c.args.at 0 c.requires.within) c.in-Opcode.ensures

pub returns-in-Characters : goal.returns-in-Characters
returns-in-Characters g c = rw take_rest at (c.text.ensures c.args.ended)

pub returns-in-Shift : goal.returns-in-Shift
returns-in-Shift g c =
    alone_nothing {c = Code.Shifted} {after = c.shift.new.self.sets} {b = get_or c.args.bytes.now c.args.at 0} (rw (drop_more c.args.bytes.now c.args.at 0 c.requires.within) refl) (grind arith) (grind arith) refl refl c.requires.live

pub returns-in-Effector : goal.returns-in-Effector
returns-in-Effector g c = rw (drop_more c.args.bytes.now c.args.at 0 c.requires.within) (c.single.ensures c.args.ended _)

pub returns-in-Bell : goal.returns-in-Bell
returns-in-Bell g c = rw (drop_more c.args.bytes.now c.args.at 0 c.requires.within) (c.single-in-Bell.ensures c.args.ended _)

pub returns-in-Call : goal.returns-in-Call
returns-in-Call g c =
    let lexer = c.args.self.now.lexer in
    let is = rw (← drop_more c.args.bytes.now c.args.at 0 c.requires.within) at (c.in-Call.ensures.1 (drop (c.args.at + 1) c.args.bytes.now)) in
    let kept : lexer ≡ rested lexer.sets = search (c.in-Call.ensures.0, rules) in
    found_call {c = Code.Call (get_or c.args.bytes.now c.args.at 0)} (record { closed = c.requires.closed; some = omega arith; whole = rw c.in-Call.ensures.0 is }) (record { before = c.requires.closed; closed = c.requires.closed; work_is = refl; lexer_is = kept; kept = kept_as refl refl }) refl refl c.requires.live

pub returns-in-Other : goal.returns-in-Other
returns-in-Other g c = rw take_rest at (c.whole_code.ensures c.args.ended)

pub returns-in-Other-2 : goal.returns-in-Other-2
returns-in-Other-2 g c = rw take_rest at (c.whole_code-in-Other-2.ensures c.args.ended)
