use Rattle.std.specs.Prelude.{Bool, Err, Ok, Result, false, true, ℕ, ◌≡◌}
use Rattle.nap_canon.specs.{Names.FeedFault, Names.Keeps, Names.flush_count, declared.conversion.ConvertFault.ConvertFault}
use Rattle.nap_list.specs.declared.device.Outlet as outlet

-- an output before its end and after it: nothing more was written, and it was flushed unless a write had failed
pub record EndsOutput {O : Type 0} (o : outlet.Ghosts O) (old new : O) : Type 0 where
  pub taken : Keeps (o.taken old) (o.taken new)
  pub failed : o.failed old ≡ true → o.failed new ≡ true
  pub sent : o.failed new ≡ false → o.sent new ≡ true
  pub flushes : o.flushes new ≡ flush_count (o.failed old) (o.flushes old)
  pub write_failed : o.write_failed new ≡ o.write_failed old

-- the number of bytes that an output took, as an error where it failed
abbrev pub bytes_taken : Bool → ℕ → Result ℕ ℕ
bytes_taken true n = Err n
bytes_taken false n = Ok n

-- the answer of a conversion that was fed with this result, where n bytes were written
abbrev pub answer_of : ℕ → Result (Unit {0}) FeedFault → Result ℕ ConvertFault
answer_of n (Ok done) = Ok n
answer_of n (Err (FeedFault.Refused r)) = Err (ConvertFault.Refused r n)
answer_of n (Err FeedFault.Read) = Err (ConvertFault.Read n)

-- a failed output replaces any other answer
abbrev pub Concludes : ℕ → Result (Unit {0}) FeedFault → Bool → Result ℕ ConvertFault → Type 0
Concludes n fed true answer = answer ≡ Err (ConvertFault.Write n)
Concludes n fed false answer = answer ≡ answer_of n fed
