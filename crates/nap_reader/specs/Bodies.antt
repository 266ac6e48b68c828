use Rattle.std.specs.Prelude.{ℕ, suc, ◌-◌, ◌==◌, ◌&&◌, nat_le, Bool, if◌then◌else◌, List, [], ◌∷◌, get_or, set, replicate}
use Rattle.nap_reader.specs.declared.fault.Fault.{Fault}

-- The bodies of macros (PROFILE.md, Macros).

-- where a stream is: between two codes, or in the body of the macro of this name, which is presented at its end or not
pub data Mode : Type 0 where
  between : Mode
  in_body : ℕ → Bool → Mode

-- the bodies of the 96 names; a name that isn't bound has an empty one, which has the same effect
abbrev pub no_names : List (List ℕ)
no_names = replicate 96 []

abbrev pub body_of : List (List ℕ) → ℕ → List ℕ
body_of names name = get_or names (name - 0x20) []

abbrev pub bind : List (List ℕ) → ℕ → List ℕ → List (List ℕ)
bind names name body = set names (name - 0x20) body

-- the most bytes of bodies in one stream (PROFILE.md, Limits)
abbrev pub store_limit : ℕ
store_limit = 1048576

-- what comes after the name of a definition: no end of the body yet; a fault, with the index of its byte; or the number
-- of bytes of the body, before the two bytes that end it
pub data BodyFront : Type 0 where
  unfinished : BodyFront
  refused : Fault → ℕ → BodyFront
  ended : ℕ → BodyFront

-- the state of a body with one more byte of the body before the known ones
abbrev pub one_byte_longer : BodyFront → BodyFront
one_byte_longer unfinished = unfinished
one_byte_longer (refused fault i) = refused fault (suc i)
one_byte_longer (ended n) = ended (suc n)

-- a byte of the body, which needs space in the store
abbrev pub stores : ℕ → BodyFront → BodyFront
stores space further = if space == 0 then refused Fault.Store 0 else one_byte_longer further

-- whether a byte after ESC ends a body: DEF MACRO, DEFP MACRO, DEFT MACRO, DEF DRCS, DEF TEXTURE or END
abbrev pub ends_body : ℕ → Bool
ends_body byte = nat_le 0x40 byte && nat_le byte 0x45

-- ESC, which belongs to the body if the byte after it neither ends the body nor has the eighth bit
abbrev pub at_escape : ℕ → List ℕ → BodyFront → BodyFront
at_escape space [] further = unfinished
at_escape space (byte ∷ bytes) further =
    if nat_le 0x80 byte then refused Fault.EighthBit 1 else if ends_body byte then ended 0 else stores space further

abbrev pub at_byte : ℕ → ℕ → List ℕ → BodyFront → BodyFront
at_byte space byte bytes further =
    if nat_le 0x80 byte then refused Fault.EighthBit 0 else if byte == 0x1B then at_escape space bytes further else stores space further

-- what comes after the name of a definition, if the store has this much space left
unfoldable pub body_front : ℕ → List ℕ → BodyFront
body_front space [] = unfinished
body_front space (byte ∷ bytes) = at_byte space byte bytes (body_front (space - 1) bytes)
