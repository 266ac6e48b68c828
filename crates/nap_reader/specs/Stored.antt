use Rattle.std.specs.Prelude.{◌≡◌, ◌<◌, ◌≤◌, ◌⊎◌, ◌+◌, ◌-◌, ◌++◌, ℕ, List, [], ◌∷◌, take, drop, length, All}
use Rattle.nap_reader.specs.{declared.store.Promise.Promise, declared.store.Span.Span, Bodies.bind, Bodies.store_limit}

-- The store of the bodies of macros.

-- the part of a list from an index, of this length
abbrev pub sublist : List ℕ → ℕ → ℕ → List ℕ
sublist bytes start end = take (end - start) (drop start bytes)

abbrev pub sublist_at : List ℕ → Span → List ℕ
sublist_at bytes span = sublist bytes span.start span.end

-- the promise where there is no memory
abbrev pub no_promise : Promise
no_promise = record { stored = 0; charged = 0 }

-- the number of bytes of a store in which a promise is kept: those of the bodies, and two for each body that is
-- presented, which is charged more than two bytes
abbrev pub promised : Promise → ℕ
promised promise = promise.stored + promise.charged

-- A reading stores or is charged more than it was promised memory for.
abbrev pub Exceeds : Promise → ℕ → ℕ → Type 0
Exceeds promise stored charged = (promise.stored < stored) ⊎ (promise.charged < charged)

-- the bodies by their names; all bytes that were stored, one body after another, some with the two bytes that ended
-- them; the bytes of the open body; and the number of bytes of the bodies before it;
-- and what there is memory for
pub record StoreState : Type 0 where
  pub names : List (List ℕ)
  pub bytes : List ℕ
  pub body : List ℕ
  pub stored : ℕ
  pub promise : Promise

-- the store with these bytes appended to the open body
abbrev pub store_grown : StoreState → List ℕ → StoreState
store_grown store more = record store { bytes = store.bytes ++ more; body = store.body ++ more }

-- the store with the name bound to the open body, which has ended
abbrev pub store_bound : StoreState → ℕ → StoreState
store_bound store name = record store { names = bind store.names name store.body; body = []; stored = store.stored + length store.body }

-- the store with the name bound to the open body, and with the two bytes that ended the body stored after it
abbrev pub store_shown : StoreState → ℕ → ℕ → StoreState
store_shown store name ender = record (store_bound store name) { bytes = store.bytes ++ 0x1B ∷ ender ∷ [] }

-- the part lies before this index
abbrev pub IsBefore : ℕ → Span → Type 0
IsBefore n span = (span.start ≤ span.end) × (span.end ≤ n)

-- all bound bodies are before the open one, all bodies together are within the limit, and the promise is kept
pub record IsStore (bytes : List ℕ) (spans : List Span) (from stored : ℕ) (promise : Promise) (space : ℕ) : Type 0 where
  pub bound : All (IsBefore from) spans
  pub all : length spans ≡ 96
  pub begun : from ≤ length bytes
  pub few : stored + (length bytes - from) ≤ store_limit
  pub kept : promised promise ≤ space
