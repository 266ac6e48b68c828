use Rattle.std.specs.Prelude.{List, [], length, ℕ, ◌++◌, ◌+◌, ◌∷◌, ◌≡◌}
use Rattle.nap_command.specs.{Types.Ahead, Types.Entry, Types.lines, declared.batch.written.Written.Written, Answers.line_at}
use Rattle.nap_list.specs.Range.{AllInRange}

-- How places are written. No one sees this.

-- how far the place of each entry is after that of the one before it
abbrev pub step_of : Ahead → ℕ
step_of (Ahead.First n) = 0
step_of (Ahead.Each n) = 1

-- the lines of entries, the first after this place, and each further one `step` after the one before
abbrev pub lines_on : ℕ → ℕ → List Entry → List ℕ
lines_on place step [] = []
lines_on place step (e ∷ es) = line_at place e ++ lines_on (place + step) step es

-- All are the lines of the known entries, which have `known` bytes, and of the entries es, in range.
pub record AreNew (known : ℕ) (all : List ℕ) (es : List Entry) : Type 0 where
  pub before : List Entry
  pub is : all ≡ lines (before ++ es)
  pub size : known ≡ length (lines before)
  pub in_range : AllInRange es

-- The lines of these entries were written, and all are known.
pub record WritesPlaces (old new : Written) (place step : ℕ) (es : List Entry) (all : List ℕ) : Type 0 where
  pub text : new.text.items ≡ old.text.items ++ lines_on place step es
  pub count : new.count ≡ old.count + length es
  pub known : new.known ≡ length all
