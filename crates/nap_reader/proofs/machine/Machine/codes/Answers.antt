use Rattle.nap_reader.proofs.{kept_as, Bool, Ghosts, List, Nothing, Request, TakesUnder, byte-placed_by_step, codes_from, drop, empty_call_takes, get_or, idle_takes, length, placed_at, placed_by_step, refl, stopped_from, takes_none, takes_under, under_then, ℕ, ◌*◌, ◌+◌, ◌<◌, ◌∙◌, ◌∷◌, ◌≡◌}
use Rattle.nap_reader.specs.declared.machine.Machine.{Machine}
use Rattle.nap_reader.proofs.machine.Machine.codes.Goals as goal

-- The machine consumes more bytes.
further : {S : Type 0} {g : Ghosts S} {names : List (List ℕ)} {old mid new : Machine S g} {ended : Bool} {count n all : ℕ} {request : Request} (place step : ℕ) (bytes : List ℕ) → TakesUnder names old mid (placed_by_step place step bytes) ended count Nothing → count < length bytes →
    TakesUnder names mid new (placed_at (get_or bytes count 0) (place + step * count) ∷ placed_by_step (place + step * (count + 1)) step (drop (count + 1) bytes)) ended n request → all ≡ count + n → TakesUnder names old new (placed_by_step place step bytes) ended all request
further {count = count} place step bytes t less takes is = under_then t (rw (byte-placed_by_step place step bytes count less) takes) is

pub loop-count-init : goal.loop-count-init
loop-count-init g c = record { takes = takes_under (takes_none (record { before = c.requires.closed; closed = c.requires.closed; work_is = refl; lexer_is = refl; kept = kept_as refl refl }) refl c.requires.live); closed = λ less. c.requires.closed }

pub code-requires-clause-closed : goal.code-requires-clause-closed
code-requires-clause-closed g c = c.loop-count.invariant.closed c.loop-count-test.true

pub loop-count-preserved-in-Acted : goal.loop-count-preserved-in-Acted
loop-count-preserved-in-Acted g c =
    let so = c.loop-count.invariant in
    record { takes = further _ _ _ so.takes c.loop-count-test.true (takes_under (codes_from _ _ _ _ c.loop-count-test.true c.in-Acted.ensures)) refl; closed = λ few. c.in-Acted.ensures.closed ∙ so.closed c.loop-count-test.true }

pub returns-in-Clears-clause-takes : goal.returns-in-Clears-clause-takes
returns-in-Clears-clause-takes g c =
    rw c.took.ensures (further _ _ _ c.loop-count.invariant.takes c.loop-count-test.true (takes_under (codes_from _ _ _ _ c.loop-count-test.true c.in-Clears.ensures)) refl)

pub returns-then-has_body-clause-takes : goal.returns-then-has_body-clause-takes
returns-then-has_body-clause-takes g c =
    rw c.took-then-has_body.ensures (further _ _ _ c.loop-count.invariant.takes c.loop-count-test.true (takes_under (codes_from _ _ _ _ c.loop-count-test.true c.in-Calls.ensures)) refl)

pub loop-count-preserved-else-has_body : goal.loop-count-preserved-else-has_body
loop-count-preserved-else-has_body g c =
    let so = c.loop-count.invariant in
    record { takes = further _ _ _ so.takes c.loop-count-test.true (empty_call_takes (codes_from _ _ _ _ c.loop-count-test.true c.in-Calls.ensures) (c.has_body.ensures.0 c.if-has_body.false)) refl; closed = λ few. c.in-Calls.ensures.closed ∙ so.closed c.loop-count-test.true }

pub returns-in-Defines-clause-takes : goal.returns-in-Defines-clause-takes
returns-in-Defines-clause-takes g c =
    rw c.took-in-Defines.ensures (further _ _ _ c.loop-count.invariant.takes c.loop-count-test.true (takes_under (codes_from _ _ _ _ c.loop-count-test.true c.in-Defines.ensures)) refl)

pub open-requires-clause-closed : goal.open-requires-clause-closed
open-requires-clause-closed g c = c.in-Opens.ensures.closed ∙ c.loop-count.invariant.closed c.loop-count-test.true

pub returns-in-Opens-clause-takes : goal.returns-in-Opens-clause-takes
returns-in-Opens-clause-takes g c =
    let (n, is, takes) = c.open.ensures.takes in
    further _ _ _ c.loop-count.invariant.takes c.loop-count-test.true (takes_under (rw c.in-Opens.ensures.within.0 at takes)) is

pub returns-in-Stopped-clause-takes : goal.returns-in-Stopped-clause-takes
returns-in-Stopped-clause-takes g c =
    rw c.stop.ensures.answer (further _ _ _ c.loop-count.invariant.takes c.loop-count-test.true (takes_under (stopped_from _ _ _ _ c.loop-count-test.true c.in-Stopped.ensures (rw c.place_of.ensures at c.stop.ensures.kept))) refl)

pub other-taken-requires-clause-closed : goal.other-taken-requires-clause-closed
other-taken-requires-clause-closed g c = c.in-Other.ensures.closed ∙ c.loop-count.invariant.closed c.loop-count-test.true

pub returns-in_default-clause-takes : goal.returns-in_default-clause-takes
returns-in_default-clause-takes g c =
    let (n, is, takes) = c.other-taken.ensures.takes in
    further _ _ _ c.loop-count.invariant.takes c.loop-count-test.true (takes_under (idle_takes c.in-Other.ensures.within c.loop-count.invariant.takes.leaves.live (c.loop-count.invariant.closed c.loop-count-test.true) c.in-Other.ensures.closed takes)) is

pub loop-count-preserved : goal.loop-count-preserved
loop-count-preserved g c =
    let (n, is, takes) = c.other-taken.ensures.takes in
    record {
      takes = further _ _ _ c.loop-count.invariant.takes c.loop-count-test.true (takes_under (idle_takes c.in-Other.ensures.within c.loop-count.invariant.takes.leaves.live (c.loop-count.invariant.closed c.loop-count-test.true) c.in-Other.ensures.closed (rw c.in-Nothing.is at takes))) is;
      closed = c.other-taken.ensures.closed c.in-Nothing.is;
    }

pub returns-clause-takes : goal.returns-clause-takes
returns-clause-takes g c = rw c.took-2.ensures c.loop-count.invariant.takes
