use Rattle.nap_draw.proofs.{Arrives, Coordinates, Course, ap, arith, drop, length, moves, operand_words, points_reached, refl, subst, sym, ◌/◌, ◌≡◌}
use Rattle.nap_draw.proofs.Execution.{Along, along_ends, along_more, along_starts, bytes_left, if_some_map, three_bytes}
use Rattle.nap_draw.proofs.counted.end_of_steps.Goals as goal

pub loop-rest-init : goal.loop-rest-init
loop-rest-init c = λ inside.
    subst (λ (at : Coordinates). Along c.args.from c.args.run.now at c.args.run.now) (sym (ap (λ (course : Course). course.point) c.from_point-walk.ensures)) (along_starts c.args.from c.args.run.now)

pub loop-rest-preserved : goal.loop-rest-preserved
loop-rest-preserved c =
    let from = c.args.from in
    let run = c.args.run.now in
    let first = bytes_left c.loop-rest.rest.now c.step-rest.result.now c.step-rest.ensures.rest in
    let second = bytes_left c.step-rest.result.now c.step-rest-in-loop-rest.result.now c.step-rest-in-loop-rest.ensures.rest in
    let third = bytes_left c.step-rest-in-loop-rest.result.now c.step-rest-in-loop-rest-2.result.now c.step-rest-in-loop-rest-2.ensures.rest in
    let fourth = bytes_left c.step-rest-in-loop-rest-2.result.now c.step-rest-in-loop-rest-3.result.now c.step-rest-in-loop-rest-3.ensures.rest in
    along_more from run _ c.step-rest-in-loop-rest-4.ensures.moves (omega (arith, first, second, third, fourth)) refl c.step-rest-in-loop-rest-4.ensures.rest
    (along_more from run _ c.step-rest-in-loop-rest-3.ensures.moves (omega (arith, first, second, third)) refl c.step-rest-in-loop-rest-3.ensures.rest
    (along_more from run _ c.step-rest-in-loop-rest-2.ensures.moves (omega (arith, first, second)) refl c.step-rest-in-loop-rest-2.ensures.rest
    (along_more from run _ c.step-rest-in-loop-rest.ensures.moves (omega (arith, first)) refl c.step-rest-in-loop-rest.ensures.rest
    (along_more from run _ c.step-rest.ensures.moves (omega arith) refl c.step-rest.ensures.rest c.loop-rest.invariant))))

pub loop-rest-2-preserved : goal.loop-rest-2-preserved
loop-rest-2-preserved c =
    along_more c.args.from c.args.run.now _ c.step-rest-in-loop-rest-2-2.ensures.moves (omega arith) refl c.step-rest-in-loop-rest-2-2.ensures.rest c.loop-rest-2.invariant

pub returns : goal.returns
returns c =
    let run = c.args.run.now in
    let rest = c.loop-rest-2.rest.now in
    let whole : length rest ≡ 3 = omega (arith, c.in-len3.len_at_least, c.in-len3.len_below) in
    let all = points_reached c.args.from (moves 3 (operand_words run)) in
    let none = bytes_left rest (drop 3 rest) refl in
    if_some_map _ (λ at. Arrives all (length run / 3) at) c.end.result c.end.ensures
    (λ at ended.
    let along = along_more c.args.from run {old = c.loop-rest-2.walk} {new = c.advance.new.self} rest
    (record { inside = c.advance.ensures.inside; point = c.advance.ensures.point }) (omega (arith, whole)) (three_bytes rest whole) refl c.loop-rest-2.invariant ended.0 in
    subst (λ (at : Coordinates). Arrives all (length run / 3) at) (sym ended.1) (along_ends c.args.from run c.advance.new.self.point (drop 3 rest) (omega (arith, whole, ((c.loop-rest-2.invariant (c.advance.ensures.inside ended.0)).kept refl).many)) (omega (arith, none, whole)) along))
