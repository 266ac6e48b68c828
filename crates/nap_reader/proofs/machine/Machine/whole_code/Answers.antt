use Rattle.nap_reader.proofs.{kept_as, Define, Nothing, acting, arith, begins_now, call_found, defining, found_acts, found_call, found_defines, found_fills, found_nothing, found_stops, found_within, front_made, left_rested, nothing_found, refl, Code, Kind, drop, front, is_fill, kind_of, length, length-drop, length-take-le, prefix_len-le-length, take, take_all, ◌-◌, ◌≡◌, Drawing, EndsWith}
use Rattle.nap_reader.proofs.machine.Machine.whole_code.Goals as goal
use Rattle.nap_reader.proofs.machine.Machine.whole_code.Goals.{In-Acts, In-Defines, In-Nothing-eq1}

-- A code of one byte that adds nothing was found.
one : (g : _) (c : In-Nothing-eq1 g) → (adding : Code) × EndsWith c.args.self.now c.args.bytes.now 1 adding c.next.new.self.sets × (kind_of adding ≡ Kind.adds_nothing)
one g c =
    let sets = c.args.self.now.lexer.sets in
    let single : c.in-Nothing-eq1.field-0 ≡ 1 = omega arith in
    let next = rw single at c.in-Nothing-eq1.ensures in
    let (adding, found, kind) = nothing_found sets (front sets c.args.bytes.now) 1 next.2.0 in
    (adding, rw next.2.1 (begins_now c.requires.closed next.0 found), kind)

pub slice_bounds-fill_prefix_len-count : goal.slice_bounds-fill_prefix_len-count
slice_bounds-fill_prefix_len-count g c = (found_within (one g (goal.at.slice_bounds-fill_prefix_len-count g c).In-Nothing-eq1).1).1

pub slice_bounds-fill_prefix_len-start : goal.slice_bounds-fill_prefix_len-start
slice_bounds-fill_prefix_len-start g c = (found_within (one g (goal.at.slice_bounds-fill_prefix_len-start g c).In-Nothing-eq1).1).1

pub overflow_add-result : goal.overflow_add-result
overflow_add-result g c =
    let bytes = c.args.bytes.now in
    omega (arith, c.fill_prefix_len.ensures, (found_within (one g (goal.at.overflow_add-result g c).In-Nothing-eq1).1).1, prefix_len-le-length is_fill (take (length bytes - 1) (drop 1 bytes)), length-take-le (length bytes - 1) (drop 1 bytes) (omega (arith, length-drop 1 bytes)), length-drop 1 bytes)

pub returns-in-Nothing-eq1 : goal.returns-in-Nothing-eq1
returns-in-Nothing-eq1 g c = λ ended.
    let bytes = c.args.bytes.now in
    let (adding, found, kind) = one g (goal.at.returns-in-Nothing-eq1 g c).In-Nothing-eq1 in
    let rest = take_all (length bytes - 1) (drop 1 bytes) (omega (arith, length-drop 1 bytes)) in
    rw (c.fill_prefix_len.ensures, rest) (found_fills found refl (record { before = c.requires.closed; closed = c.requires.closed; work_is = refl; lexer_is = rw (← c.in-Nothing-eq1.ensures.1) refl; kept = kept_as refl refl }) refl kind c.requires.live)

pub returns-in-Nothing : goal.returns-in-Nothing
returns-in-Nothing g c = λ ended.
    let (adding, found, kind) = nothing_found c.args.self.now.lexer.sets (front c.args.self.now.lexer.sets c.args.bytes.now) c.in-Nothing.count c.in-Nothing.ensures.2.0 in
    found_nothing (begins_now c.requires.closed c.in-Nothing.ensures.0 found)
    (record { before = c.requires.closed; closed = c.requires.closed; work_is = refl; lexer_is = left_rested _ c.args.self.now.lexer.sets c.next.new.self c.in-Nothing.ensures.1 c.in-Nothing.ensures.2; kept = kept_as refl refl }) refl kind c.requires.live

pub returns-in-Calls : goal.returns-in-Calls
returns-in-Calls g c = λ ended.
    let found = call_found c.args.self.now.lexer.sets (front c.args.self.now.lexer.sets c.args.bytes.now) c.in-Calls.count c.in-Calls.name c.in-Calls.ensures.2.0 in
    found_call (begins_now c.requires.closed c.in-Calls.ensures.0 found)
    (record { before = c.requires.closed; closed = c.requires.closed; work_is = refl; lexer_is = left_rested _ c.args.self.now.lexer.sets c.next.new.self c.in-Calls.ensures.1 c.in-Calls.ensures.2; kept = kept_as refl refl }) refl refl c.requires.live

-- A code that acts was found.
acts : (g : _) (c : In-Acts g) → Drawing c.args.self.now c.next.new.self c.args.bytes.now c.in-Acts.count c.in-Acts.code Nothing
acts g c = acting _ _ (begins_now c.requires.closed c.in-Acts.ensures.0) c.in-Acts.ensures.1 c.in-Acts.ensures.2

pub control-requires-clause-made : goal.control-requires-clause-made
control-requires-clause-made g c = front_made _ _ c.in-Acts.code _ _ (acts g (goal.at.control-requires-clause-made g c).In-Acts).ends.whole

pub overflow_sub-result : goal.overflow_sub-result
overflow_sub-result g c = omega (arith, (acts g (goal.at.overflow_sub-result g c).In-Acts).ends.some)

pub overflow_sub-result-in-Err : goal.overflow_sub-result-in-Err
overflow_sub-result-in-Err g c = omega (arith, (acts g (goal.at.overflow_sub-result-in-Err g c).In-Acts).ends.some)

pub returns-in-Ok : goal.returns-in-Ok
returns-in-Ok g c = λ ended.
    let drawn = acts g (goal.at.returns-in-Ok g c).In-Acts in
    let acted = c.in-Ok.ensures.acts in
    found_acts drawn.ends {entries = acted.0} (record { before = c.requires.closed; closed = c.requires.closed; work_is = refl; lexer_is = drawn.left; kept = kept_as refl refl }) drawn.ruled (grind arith) (grind arith) g.met.S.Sink.took_more g.met.S.Sink.wants_more

pub returns-in-Err : goal.returns-in-Err
returns-in-Err g c = λ ended.
    let drawn = acts g (goal.at.returns-in-Err g c).In-Acts in
    rw c.from.ensures (found_stops drawn.ends {fault = c.in-Err.fault} refl refl drawn.ruled (grind arith) (grind arith))

-- A definition was found.
defines : (g : _) (c : In-Defines g) → Drawing c.args.self.now c.next.new.self c.args.bytes.now c.in-Defines.count (Code.DefMacro c.in-Defines.name c.in-Defines.show) (Define c.in-Defines.name c.in-Defines.show)
defines g c = defining _ _ (begins_now c.requires.closed c.in-Defines.ensures.0) c.in-Defines.ensures.1 c.in-Defines.ensures.2

pub overflow_sub-result-in-Err-control : goal.overflow_sub-result-in-Err-control
overflow_sub-result-in-Err-control g c = omega (arith, (defines g (goal.at.overflow_sub-result-in-Err-control g c).In-Defines).ends.some)

pub overflow_sub-result-in-Err-control-2 : goal.overflow_sub-result-in-Err-control-2
overflow_sub-result-in-Err-control-2 g c = omega (arith, (defines g (goal.at.overflow_sub-result-in-Err-control-2 g c).In-Defines).ends.some)

pub returns-in-Ok-control : goal.returns-in-Ok-control
returns-in-Ok-control g c = λ ended.
    let drawn = defines g (goal.at.returns-in-Ok-control g c).In-Defines in
    let acted = c.in-Ok-control.ensures.acts in
    found_defines drawn.ends {entries = acted.0} (record { before = c.requires.closed; closed = c.requires.closed; work_is = refl; lexer_is = drawn.left; kept = kept_as refl refl }) drawn.ruled (grind arith) (grind arith) g.met.S.Sink.took_more g.met.S.Sink.wants_more

pub returns-in-Err-control : goal.returns-in-Err-control
returns-in-Err-control g c = λ ended.
    let drawn = defines g (goal.at.returns-in-Err-control g c).In-Defines in
    rw c.from-in-Err-control.ensures (found_stops drawn.ends {fault = c.in-Err-control.fault} refl refl drawn.ruled (grind arith) (grind arith))

pub returns-in-Other : goal.returns-in-Other
returns-in-Other g c = λ ended. record { within = record { kept = kept_as refl refl; work = refl; lexer = c.in-Other.ensures; sink = refl; refusal = refl }; closed = refl; by = λ x ys is. tt }
