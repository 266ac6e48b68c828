use Rattle.std.proofs.Common.{ℕ, ◌≡◌, ◌+◌, ◌-◌, ◌^◌, ◌<◌, ◌≤◌, ◌||◌, Bool, true, false, Option, Result, Ok, Err, List, [], ◌++◌, length, take, drop, take-add, min, refl, ap, sym, subst, ◌∙◌, length-append, length-drop, append-nil, take_all, arith}
use Rattle.std.proofs.{Math.Bool.or-false, Math.Bool.or_assoc, lemmas.List.length-take-le, KnownBytes.Appends-kept, KnownBytes.Appends-nil, KnownBytes.Appends-trans}
use Rattle.std.specs.Io.KnownBytes.{Appends, Keeps}
use Rattle.nap_list.specs.declared.device.Outlet as outlet

-- An outlet that is written, as contracts see it: the bytes that it took, if it tells them; whether it has failed, and
-- whether a write has; the number of flushes; and the number of bytes that it was seen to take.
pub record Sending : Type 0 where
  pub taken : Option (List ℕ)
  pub failed : Bool
  pub write_failed : Bool
  pub flushes : ℕ
  pub count : ℕ

abbrev pub sending : {O : Type 0} → outlet.Ghosts O → O → ℕ → Sending
sending o to count = record { taken = o.taken to; failed = o.failed to; write_failed = o.write_failed to; flushes = o.flushes to; count = count }

-- The outlet was only written: it failed meanwhile exactly if a write did, and it wasn't flushed.
pub record Writes (s t : Sending) : Type 0 where
  pub fails : Bool
  pub failed : t.failed ≡ (s.failed || fails)
  pub write_failed : t.write_failed ≡ (s.write_failed || fails)
  pub flushes : t.flushes ≡ s.flushes

-- The outlet took these bytes after the earlier ones, and was only written. The count grows by their number, saturating
-- at 2^64 - 1.
pub record Grows (s : Sending) (bytes : List ℕ) (t : Sending) : Type 0 where
  pub taken : Appends s.taken t.taken bytes
  pub count : t.count ≡ s.count + min (length bytes) (2 ^ 64 - 1 - s.count)
  pub writes : Writes s t

-- all of the bytes were taken, and no write failed
pub record SendsAll (s : Sending) (bytes : List ℕ) (t : Sending) : Type 0 where
  pub grows : Grows s bytes t
  pub failed : t.failed ≡ s.failed

-- a proper prefix of the bytes was taken, and then a write failed
pub record SendsSome (s : Sending) (bytes : List ℕ) (t : Sending) : Type 0 where
  pub part : ℕ
  pub less : part < length bytes
  pub grows : Grows s (take part bytes) t
  pub failed : t.failed ≡ true

-- the bytes were written, or a write failed during them
abbrev pub Sends : Sending → List ℕ → Bool → Sending → Type 0
Sends s bytes true t = SendsSome s bytes t
Sends s bytes false t = SendsAll s bytes t

-- The outlet took so many of the bytes, not all, and then a write failed, which took none.
pub record FailsAfter {O : Type 0} (o : outlet.Ghosts O) (before : O) (n : ℕ) (bytes : List ℕ) (taken : ℕ) (after : O) (count : ℕ) : Type 0 where
  pub less : taken < length bytes
  pub mid : O
  pub prefix : SendsAll (sending o before n) (take taken bytes) (sending o mid count)
  pub grows : Grows (sending o mid count) [] (sending o after count)
  pub failed : o.failed after ≡ true
  pub write_failed : o.write_failed after ≡ true

-- all of the bytes were taken, or as many as the error says before a write failed
abbrev pub SendsBytes : {O : Type 0} → outlet.Ghosts O → O → ℕ → List ℕ → O → ℕ → Result (Unit {0}) ℕ → Type 0
SendsBytes o before n bytes after count (Ok done) = SendsAll (sending o before n) bytes (sending o after count) × (o.write_failed after ≡ o.write_failed before)
SendsBytes o before n bytes after count (Err taken) = FailsAfter o before n bytes taken after count

-- Laws of sending: no bytes, and bytes after others.

counted_more : (m a b s t u : ℕ) → t ≡ s + min a (m - s) → u ≡ t + min b (m - t) → u ≡ s + min (a + b) (m - s)
counted_more m a b s t u first second = omega arith

counted_none : (m s : ℕ) → s ≡ s + min 0 (m - s)
counted_none m s = omega arith

writes_none : (s : Sending) → Writes s s
writes_none s = record { fails = false; failed = sym (or-false s.failed); write_failed = sym (or-false s.write_failed); flushes = refl }

writes_more : (s t u : Sending) → Writes s t → Writes t u → Writes s u
writes_more s t u first second = record {
  fails = first.fails || second.fails;
  failed = second.failed ∙ ap (λ (b : Bool). b || second.fails) first.failed ∙ or_assoc s.failed first.fails second.fails;
  write_failed = second.write_failed ∙ ap (λ (b : Bool). b || second.fails) first.write_failed ∙ or_assoc s.write_failed first.fails second.fails;
  flushes = second.flushes ∙ first.flushes;
}

pub grows_none : (s : Sending) → Grows s [] s
grows_none s = record { taken = Appends-nil s.taken; count = counted_none (2 ^ 64 - 1) s.count; writes = writes_none s }

pub grows_more : (s t u : Sending) (a b : List ℕ) → Grows s a t → Grows t b u → Grows s (a ++ b) u
grows_more s t u a b first second = record {
  taken = Appends-trans s.taken t.taken u.taken a b first.taken second.taken;
  count =
      counted_more (2 ^ 64 - 1) (length a) (length b) s.count t.count u.count first.count second.count
      ∙ ap (λ (n : ℕ). s.count + min n (2 ^ 64 - 1 - s.count)) (sym (length-append a b));
  writes = writes_more s t u first.writes second.writes;
}

-- Bytes that an outlet takes, write after write.

counted_on : (n count k : ℕ) → n ≤ 2 ^ 64 - 1 → k ≡ min (n + count) (2 ^ 64 - 1) → k ≡ n + min count (2 ^ 64 - 1 - n)
counted_on n count k small is = omega arith

-- one write takes a part of the rest
pub write_grows : {O : Type 0} (o : outlet.Ghosts O) (s : Sending) (t u : O) (n k i count : ℕ) (xs : List ℕ) → Grows s (take i xs) (sending o t n) →
    count ≤ length (drop i xs) → Appends (o.taken t) (o.taken u) (take count (drop i xs)) → o.failed u ≡ (o.failed t || false) →
    o.write_failed u ≡ (o.write_failed t || false) → o.flushes u ≡ o.flushes t → n ≤ 2 ^ 64 - 1 → k ≡ min (n + count) (2 ^ 64 - 1) → Grows s (take (i + count) xs) (sending o u k)
write_grows o s t u n k i count xs so_far few appended failed write_failed flushes small counted =
    let piece : List ℕ = take count (drop i xs) in
    let more : Grows (sending o t n) piece (sending o u k) = record {
      taken = appended;
      count = counted_on n count k small counted ∙ ap (λ (l : ℕ). n + min l (2 ^ 64 - 1 - n)) (sym (length-take-le count (drop i xs) few));
      writes = record { fails = false; failed = failed; write_failed = write_failed; flushes = flushes };
    } in
    subst (λ (bytes : List ℕ). Grows s bytes (sending o u k)) (sym (take-add i count xs)) (grows_more s (sending o t n) (sending o u k) (take i xs) piece so_far more)

-- a write fails, and takes nothing
pub write_fails : {O : Type 0} (o : outlet.Ghosts O) (t u : O) (n : ℕ) → Keeps (o.taken t) (o.taken u) → o.failed u ≡ (o.failed t || true) →
    o.write_failed u ≡ (o.write_failed t || true) → o.flushes u ≡ o.flushes t → Grows (sending o t n) [] (sending o u n)
write_fails o t u n kept failed write_failed flushes = record {
  taken = Appends-kept (o.taken t) (o.taken t) (o.taken u) [] (Appends-nil (o.taken t)) kept;
  count = omega arith;
  writes = record { fails = true; failed = failed; write_failed = write_failed; flushes = flushes };
}

-- the piece from i on is the rest
pub rest_of : (i : ℕ) (xs : List ℕ) → take (length xs - i) (drop i xs) ≡ drop i xs
rest_of i xs = take_all (length xs - i) (drop i xs) (omega (arith, length-drop i xs))

-- what was taken before a write failed
pub stopped_grows : {O : Type 0} (o : outlet.Ghosts O) (before : O) (n : ℕ) (bytes : List ℕ) (taken : ℕ) (after : O) (count : ℕ) → FailsAfter o before n bytes taken after count →
    Grows (sending o before n) (take taken bytes) (sending o after count)
stopped_grows o before n bytes taken after count h =
    subst (λ (sent : List ℕ). Grows (sending o before n) sent (sending o after count)) (append-nil (take taken bytes))
    (grows_more (sending o before n) (sending o h.mid count) (sending o after count) (take taken bytes) [] h.prefix.grows h.grows)
