use Rattle.nap_reader.proofs.{kept_as, Bool, Codes, DoesNothing, Fault, Ghosts, List, arith, codes_from, idle_lives, idle_takes, inl, length-rest_of, refl, stopped_from, take_rest, ℕ, ◌∙◌, ◌≢◌}
use Rattle.nap_reader.specs.declared.machine.Machine.{Machine}
use Rattle.nap_reader.specs.declared.machine.codes.CodeOutcome.{CodeOutcome}
use Rattle.nap_reader.proofs.machine.Machine.other.Goals as goal
use Rattle.nap_reader.proofs.machine.Machine.other.Goals.{In_default}

pub overflow_add-at : goal.overflow_add-at
overflow_add-at g c = omega (arith, (c.in-Acted.ensures c.args.ended).within.1, length-rest_of c.args.slice.now.bytes.now c.args.at, c.requires.within)

pub returns-in-Acted-clause-some : goal.returns-in-Acted-clause-some
returns-in-Acted-clause-some g c = rw c.took.ensures (inl (omega (arith, (c.in-Acted.ensures c.args.ended).within.0)))

pub returns-in-Acted-clause-closed : goal.returns-in-Acted-clause-closed
returns-in-Acted-clause-closed g c = λ none few. (c.in-Acted.ensures c.args.ended).closed ∙ c.requires.closed

pub returns-in-Acted-clause-takes : goal.returns-in-Acted-clause-takes
returns-in-Acted-clause-takes g c =
    let slice = c.args.slice.now in
    rw c.took.ensures (c.in-Acted.more, refl, codes_from slice.place slice.step slice.bytes.now c.args.at c.requires.within (rw take_rest at (c.in-Acted.ensures c.args.ended)))

pub overflow_add-at-in-Clears : goal.overflow_add-at-in-Clears
overflow_add-at-in-Clears g c = omega (arith, (c.in-Clears.ensures c.args.ended).within.1, length-rest_of c.args.slice.now.bytes.now c.args.at, c.requires.within)

pub returns-in-Clears-clause-some : goal.returns-in-Clears-clause-some
returns-in-Clears-clause-some g c = rw c.took-in-Clears.ensures (inl (omega (arith, (c.in-Clears.ensures c.args.ended).within.0)))

pub returns-in-Clears-clause-takes : goal.returns-in-Clears-clause-takes
returns-in-Clears-clause-takes g c =
    let slice = c.args.slice.now in
    rw c.took-in-Clears.ensures (c.in-Clears.more, refl, codes_from slice.place slice.step slice.bytes.now c.args.at c.requires.within (rw take_rest at (c.in-Clears.ensures c.args.ended)))

pub overflow_add-at-in-Calls : goal.overflow_add-at-in-Calls
overflow_add-at-in-Calls g c = omega (arith, (c.in-Calls.ensures c.args.ended).within.1, length-rest_of c.args.slice.now.bytes.now c.args.at, c.requires.within)

pub returns-in-Calls-clause-some : goal.returns-in-Calls-clause-some
returns-in-Calls-clause-some g c = rw c.took-in-Calls.ensures (inl (omega (arith, (c.in-Calls.ensures c.args.ended).within.0)))

pub returns-in-Calls-clause-takes : goal.returns-in-Calls-clause-takes
returns-in-Calls-clause-takes g c =
    let slice = c.args.slice.now in
    rw c.took-in-Calls.ensures (c.in-Calls.more, refl, codes_from slice.place slice.step slice.bytes.now c.args.at c.requires.within (rw take_rest at (c.in-Calls.ensures c.args.ended)))

pub overflow_add-at-in-Defines : goal.overflow_add-at-in-Defines
overflow_add-at-in-Defines g c = omega (arith, (c.in-Defines.ensures c.args.ended).within.1, length-rest_of c.args.slice.now.bytes.now c.args.at, c.requires.within)

pub returns-in-Defines-clause-some : goal.returns-in-Defines-clause-some
returns-in-Defines-clause-some g c = rw c.took-in-Defines.ensures (inl (omega (arith, (c.in-Defines.ensures c.args.ended).within.0)))

pub returns-in-Defines-clause-takes : goal.returns-in-Defines-clause-takes
returns-in-Defines-clause-takes g c =
    let slice = c.args.slice.now in
    rw c.took-in-Defines.ensures (c.in-Defines.more, refl, codes_from slice.place slice.step slice.bytes.now c.args.at c.requires.within (rw take_rest at (c.in-Defines.ensures c.args.ended)))

pub overflow_add-at-in-Stopped : goal.overflow_add-at-in-Stopped
overflow_add-at-in-Stopped g c = omega (arith, (c.in-Stopped.ensures c.args.ended).within.0, length-rest_of c.args.slice.now.bytes.now c.args.at, c.requires.within)

pub overflow_add-at-in-Stopped-2 : goal.overflow_add-at-in-Stopped-2
overflow_add-at-in-Stopped-2 g c = omega (arith, (c.in-Stopped.ensures c.args.ended).within.1, length-rest_of c.args.slice.now.bytes.now c.args.at, c.requires.within)

pub place_of-requires : goal.place_of-requires
place_of-requires g c = omega (arith, (c.in-Stopped.ensures c.args.ended).within.1, length-rest_of c.args.slice.now.bytes.now c.args.at, c.requires.within)

pub returns-in-Stopped-clause-takes : goal.returns-in-Stopped-clause-takes
returns-in-Stopped-clause-takes g c =
    let slice = c.args.slice.now in
    rw c.stop.ensures.answer (c.in-Stopped.more, refl, stopped_from slice.place slice.step slice.bytes.now c.args.at c.requires.within (rw take_rest at (c.in-Stopped.ensures c.args.ended)) (rw c.place_of.ensures at c.stop.ensures.kept))

-- Nothing was done.
idle : {S : Type 0} {g : Ghosts S} {old mid : Machine S g} {bytes : List ℕ} {ended : Bool} (outcome : CodeOutcome) → Codes old mid bytes ended outcome → ((n : ℕ) → outcome ≢ CodeOutcome.Acted n) → ((n : ℕ) → outcome ≢ CodeOutcome.Clears n) → ((n : ℕ) (fault : Fault) (i : ℕ) → outcome ≢ CodeOutcome.Stopped n fault i) →
    ((n name : ℕ) → outcome ≢ CodeOutcome.Calls n name) → ((n name : ℕ) (show : Bool) → outcome ≢ CodeOutcome.Defines n name show) → DoesNothing old mid
idle outcome codes acted clears stopped calls defines = grind (arith, kept_as)

did_nothing : (g : _) (c : In_default g) → DoesNothing c.args.self.now c.rest_of_escape.new.self
did_nothing g c = idle c.rest_of_escape.result (c.rest_of_escape.ensures c.args.ended) c.in_default.not-Acted c.in_default.not-Clears c.in_default.not-Stopped c.in_default.not-Calls c.in_default.not-Defines

pub any_byte-requires-clause-live : goal.any_byte-requires-clause-live
any_byte-requires-clause-live g c = idle_lives (did_nothing g (goal.at.any_byte-requires-clause-live g c).In_default) c.requires.live

pub any_byte-requires-clause-closed : goal.any_byte-requires-clause-closed
any_byte-requires-clause-closed g c = (c.rest_of_escape.ensures c.args.ended).closed ∙ c.requires.closed

pub returns-in_default-clause-takes : goal.returns-in_default-clause-takes
returns-in_default-clause-takes g c =
    let (n, is, takes) = c.any_byte.ensures.takes in
    (n, is, idle_takes (did_nothing g (goal.at.returns-in_default-clause-takes g c).In_default) c.requires.live c.requires.closed (c.rest_of_escape.ensures c.args.ended).closed takes)
