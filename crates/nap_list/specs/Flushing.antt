use Rattle.std.specs.Prelude.{ℕ, ◌≡◌, ◌+◌, ◌-◌, ◌^◌, Bool, true, false, min}
use Rattle.nap_list.specs.declared.device.Outlet as outlet

-- the number of flushes after an output was written and then flushed, which is left out after a failed write
abbrev pub flush_count : Bool → ℕ → ℕ
flush_count true n = n
flush_count false n = min (n + 1) (2 ^ 64 - 1)

-- The output was written and then flushed: once if no write has failed, else not at all.
abbrev pub FlushedOnce : {O : Type 0} → outlet.Ghosts O → O → O → Type 0
FlushedOnce o before after = o.flushes after ≡ flush_count (o.write_failed after) (o.flushes before)
