use Rattle.std.specs.Prelude.{Bool, List, Option, Some, [], drop, length, true, ℕ, ◌++◌, ◌+◌, ◌-◌, ◌<◌, ◌^◌, ◌∷◌, ◌≡◌, ◌≤◌, ◌⊎◌}
use Rattle.nap_reader.specs.{declared.frames.Frame.Frame, Steps.IsOver, Stored.Exceeds, Stored.StoreState, declared.store.Promise.Promise}
use Rattle.nap_reader.specs.Shared.{ends_body, Budget, Fault, Input, Memory, OpenBody, Placed, bytes_of, placed_at, placed_by_step, placed_from, store_limit, unread_of}

-- The bytes that come next, and what an input makes of them. No caller sees these definitions.

-- The bytes of bodies that come next, and then those of the piece from this index on, the first of them at this place.
pub record Position : Type 0 where
  pub frames : List Placed
  pub at : ℕ
  pub place : ℕ

abbrev pub position_of : Input → Position
position_of input = record { frames = unread_of input; at = input.at; place = input.fed }

abbrev pub bytes_from : Position → List ℕ → List Placed
bytes_from p piece = p.frames ++ placed_from p.place (drop p.at piece)

-- the position after n bytes, if these bytes of bodies come first then
abbrev pub past : Position → ℕ → List Placed → Position
past p n came = record { frames = came ++ drop n p.frames; at = p.at + (n - length p.frames); place = p.place + (n - length p.frames) }

-- the bytes that come next: those of bodies, then those of the piece
abbrev pub next_bytes : Input → List ℕ → List Placed
next_bytes input piece = unread_of input ++ placed_from input.fed (drop input.at piece)

-- An input reads this piece.
pub record Reads (input : Input) (piece : List ℕ) : Type 0 where
  pub within : input.at ≤ length piece
  pub small : length piece < 2 ^ 63
  pub few : input.fed + (length piece - input.at) < 2 ^ 63

-- An input can pass `count` bytes of the innermost body, or else of the piece.
pub record CanPass (input : Input) (piece : List ℕ) (count : ℕ) : Type 0 where
  pub reads : Reads input piece
  pub of_piece : input.frames.stack.items ≡ [] → input.at + count ≤ length piece
  pub of_body : (before : List Frame) (frame : Frame) → input.frames.stack.items ≡ before ++ frame ∷ [] → frame.next + count ≤ frame.end

abbrev pub CanAdvance : Input → ℕ → Type 0
CanAdvance input count = (piece : List ℕ) × CanPass input piece count

-- The next bytes begin with these, the first at this place and each further one this far after the one before, all of
-- them of one body or of the piece. If `ended`, no operand comes after them.
pub record IsNextText (input : Input) (piece : List ℕ) (place step : ℕ) (text : List ℕ) (ended : Bool) : Type 0 where
  pub some : 0 < length text
  pub more : List Placed
  pub is : next_bytes input piece ≡ placed_by_step place step text ++ more
  pub passes : CanPass input piece (length text)
  pub over : ended ≡ true → IsOver (bytes_of more)

-- An input has passed `count` of the next bytes, and has charged these bytes of bodies, which come first then. It stores
-- these bodies, and this body is open.
pub record Moves (old new : Input) (count : ℕ) (came : List Placed) (store : StoreState) (opened : Option OpenBody) : Type 0 where
  pub rest : unread_of new ≡ came ++ drop count (unread_of old)
  pub at : new.at ≡ old.at + (count - length (unread_of old))
  pub fed : new.fed ≡ old.fed + (count - length (unread_of old))
  pub turns : new.turns ≡ old.turns + count
  pub budget : new.budget ≡ old.budget
  pub charged : new.charged ≡ old.charged + length came
  pub promise : new.store.promise ≡ old.store.promise
  pub store_is : new.store ≡ store
  pub body : new.body ≡ opened

-- An input stores these bodies, and this body is open; all else is unchanged.
pub record StoresBody (old new : Input) (store : StoreState) (opened : Option OpenBody) : Type 0 where
  pub frames : new.frames.stack.items ≡ old.frames.stack.items
  pub at : new.at ≡ old.at
  pub fed : new.fed ≡ old.fed
  pub turns : new.turns ≡ old.turns
  pub budget : new.budget ≡ old.budget
  pub charged : new.charged ≡ old.charged
  pub promise : new.store.promise ≡ old.store.promise
  pub store_is : new.store ≡ store
  pub body : new.body ≡ opened

-- The bytes of a body can't be charged; or memory is lacking for them, for which there was no promise.
pub record CannotShow (old new : Input) (bytes : List ℕ) (fault : Fault) : Type 0 where
  pub reason : ((fault ≡ Budget) × (old.budget - old.charged < length bytes))
      ⊎ ((fault ≡ Memory) × (0 < length bytes) × (length bytes ≤ old.budget - old.charged))
  pub lacks : fault ≡ Memory → Exceeds old.store.promise (old.store.stored + length old.store.body) (old.charged + length bytes)
  pub still : StoresBody old new old.store old.body

-- An input has read on, by at least `count` bytes.
pub record HasReadOn (old new : Input) (piece : List ℕ) (count : ℕ) : Type 0 where
  pub reads : Reads new piece
  pub budget : new.budget ≡ old.budget
  pub promise : new.store.promise ≡ old.store.promise
  pub fed : new.fed + old.at ≡ old.fed + new.at
  pub turns : old.turns + count ≤ new.turns

-- The next byte is this one, at this place.
pub record IsNextByte (input : Input) (piece : List ℕ) (byte place : ℕ) : Type 0 where
  pub reads : Reads input piece
  pub rest : List Placed
  pub is : next_bytes input piece ≡ placed_at byte place ∷ rest

-- An ESC is pending in this body, and this byte after it ends the body, or doesn't.
pub record AfterEscape (input : Input) (b : OpenBody) (byte : ℕ) (ending : Bool) : Type 0 where
  pub escape : ℕ
  pub retained : b.escape ≡ Some escape
  pub opened : input.body ≡ Some (record { name = b.name; show = b.show; escape = Some escape })
  pub ends : ends_body byte ≡ ending

-- what an input that has read a page promises to another reading of the page
abbrev pub promise_after : Input → Promise
promise_after input = record { stored = store_limit; charged = input.charged }
