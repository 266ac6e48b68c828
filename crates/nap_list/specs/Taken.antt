use Rattle.std.specs.Prelude.{drop, take}
use Rattle.nap_list.specs.{Types.State, declared.sink_state.Taken.Taken, Batches.batch_entries, Shapes.entry_of_shape, State.after, State.start, State.walk}

-- the state that entries leave after earlier ones
abbrev pub state_left : Taken → State
state_left Taken.Nothing = start
state_left (Taken.Entry from entry) = after from.now.state entry.now
state_left (Taken.Shape from shape) = after from.now.state (entry_of_shape shape.now)
state_left (Taken.Part from batch first count) = walk from.now.state (take count (drop first (batch_entries batch.now)))
