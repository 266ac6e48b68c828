use Rattle.std.specs.Prelude.{ℕ, ◌≡◌, ◌<◌, true, false, List, [], ◌∷◌, ◌++◌, length, take, Result, Ok, Err}
use Rattle.nap_list.specs.{declared.device.DeviceFault.DeviceFault, declared.entry.Entry.Entry, declared.sink.BatchFault.BatchFault, declared.sink.SinkFault.SinkFault, declared.state.State.State, Sending.Sending, Sending.sending, Sending.Grows, State.walk}
use Rattle.nap_list.specs.declared.device.Outlet as outlet
use Rattle.nap_lines.specs.Listing.{lines}

-- Lines that are printed as entries are taken.

-- A prefix of the buffered bytes and these was sent, and the rest is left.
pub record SendsPart (s : Sending) (buffered bytes left : List ℕ) (t : Sending) : Type 0 where
  pub sent : List ℕ
  pub parts : buffered ++ bytes ≡ sent ++ left
  pub grows : Grows s sent t

-- the least memory in which a printer never lacks any, in bytes
abbrev pub line_memory : ℕ
line_memory = 131072

-- A printer: its outlet, the number of bytes that it took, the buffered bytes, the state that the next entry has to fit,
-- and the number of bytes that its memory can hold.
pub record Printing (O : Type 0) : Type 0 where
  pub outlet : O
  pub written : ℕ
  pub buffered : List ℕ
  pub state : State
  pub space : ℕ

abbrev pub sending_by : {O : Type 0} → outlet.Ghosts O → Printing O → Sending
sending_by o s = sending o s.outlet s.written

-- a printer took these entries: their lines were sent, or are buffered
pub record TookLines {O : Type 0} (o : outlet.Ghosts O) (s : Printing O) (d : List Entry) (t : Printing O) : Type 0 where
  pub passes : SendsPart (sending_by o s) s.buffered (lines d) t.buffered (sending_by o t)
  pub failed : o.failed t.outlet ≡ o.failed s.outlet
  pub state : t.state ≡ walk s.state d
  pub space : t.space ≡ s.space

-- a printer took these entries, and a write failed in their lines or in the line of one more entry
pub record BrokeLines {O : Type 0} (o : outlet.Ghosts O) (s : Printing O) (d : List Entry) (e : Entry) (t : Printing O) : Type 0 where
  pub left : List ℕ
  pub passes : SendsPart (sending_by o s) s.buffered (lines (d ++ e ∷ [])) left (sending_by o t)
  pub failed : o.failed t.outlet ≡ true
  pub state : t.state ≡ walk s.state d

-- A printer is closed: the buffered bytes were sent, all of them unless the outlet failed. Nothing is sent if the
-- outlet had failed before.
pub record Closes {O : Type 0} (o : outlet.Ghosts O) (s : Printing O) (w : O) (count : ℕ) : Type 0 where
  pub left : List ℕ
  pub passes : SendsPart (sending_by o s) s.buffered [] left (sending o w count)
  pub all : o.failed w ≡ false → left ≡ []
  pub still : o.failed s.outlet ≡ true → (w ≡ s.outlet) × (count ≡ s.written)

-- Lines that are printed up to a failure.

-- the buffered bytes were sent, or are still buffered, or a write failed in them
abbrev pub SendsBuffered : Sending → List ℕ → List ℕ → Sending → Result (Unit {0}) DeviceFault → Type 0
SendsBuffered s buffered now t (Ok done) = SendsPart s buffered [] now t × (t.failed ≡ s.failed)
SendsBuffered s buffered now t (Err fault) = ((left : List ℕ) × SendsPart s buffered [] left t) × (t.failed ≡ true)

-- n lines of a list were printed, and then memory ran out, which is less than a printer needs, or a write failed, with an
-- outlet that hadn't failed before
abbrev pub PrintsUpTo : {O : Type 0} → outlet.Ghosts O → Printing O → List Entry → ℕ → Printing O → SinkFault → Type 0
PrintsUpTo o s d n t SinkFault.Memory = SendsPart (sending_by o s) s.buffered (lines (take n d)) t.buffered (sending_by o t) × (o.failed t.outlet ≡ false) × (s.space < line_memory)
PrintsUpTo o s d n t SinkFault.Write = ((left : List ℕ) × SendsPart (sending_by o s) s.buffered (lines (take n d)) left (sending_by o t)) × (o.failed t.outlet ≡ true)

-- the lines of a list were printed, all of them or as many as the error says, with an outlet that hadn't failed before;
-- the state is unchanged, and so is the memory
abbrev pub PrintsLines : {O : Type 0} → outlet.Ghosts O → Printing O → List Entry → Printing O → Result (Unit {0}) BatchFault → Type 0
PrintsLines o s d t (Ok done) = SendsPart (sending_by o s) s.buffered (lines d) t.buffered (sending_by o t) × (o.failed t.outlet ≡ false) × (t.state ≡ s.state) × (t.space ≡ s.space)
PrintsLines o s d t (Err stop) = PrintsUpTo o s d stop.taken t stop.fault × (stop.taken < length d) × (t.state ≡ s.state) × (t.space ≡ s.space)

-- how many of a number of entries were taken
abbrev pub taken_count : ℕ → Result (Unit {0}) BatchFault → ℕ
taken_count n (Ok done) = n
taken_count n (Err stop) = stop.taken
