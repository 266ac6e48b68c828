use Rattle.std.specs.Prelude.{◌≡◌, ◌<◌, ◌≤◌, ◌+◌, ◌++◌, ℕ, List, [], ◌∷◌, All}
use Rattle.nap_reader.specs.{declared.frames.Frame.Frame, Stored.sublist, Stream.Placed, Stream.all_at}

-- What remains to be read of the bodies that are being read.

-- a byte at a place
abbrev pub placed_at : ℕ → ℕ → Placed
placed_at byte place = record { byte = byte; place = place }

-- bytes, the first at this place, and each further one this far after the one before
unfoldable pub placed_by_step : ℕ → ℕ → List ℕ → List Placed
placed_by_step place step [] = []
placed_by_step place step (b ∷ bs) = placed_at b place ∷ placed_by_step (place + step) step bs

-- the bytes of one body
abbrev pub frame_bytes : List ℕ → Frame → List Placed
frame_bytes bytes frame = all_at frame.place (sublist bytes frame.next frame.end)

-- the unread bytes of all bodies, the innermost first
abbrev pub unread : List ℕ → List Frame → List Placed
unread bytes [] = []
unread bytes (frame ∷ frames) = unread bytes frames ++ frame_bytes bytes frame

-- each frame has at least one byte left, in the store
abbrev pub IsFrame : ℕ → Frame → Type 0
IsFrame n frame = (frame.next < frame.end) × (frame.end ≤ n)

abbrev pub FramesIn : ℕ → List Frame → Type 0
FramesIn n frames = All (IsFrame n) frames

-- these bytes at this place remain of the innermost body
pub record Innermost (bytes : List ℕ) (frames : List Frame) (text : List ℕ) (place : ℕ) : Type 0 where
  pub before : List Frame
  pub frame : Frame
  pub last : frames ≡ before ++ frame ∷ []
  pub text_is : text ≡ sublist bytes frame.next frame.end
  pub place_is : place ≡ frame.place
