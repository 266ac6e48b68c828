use Rattle.nap_reader.proofs.{List, Some, ap, arith, drop, kept_as, length, length-drop, length-placed_by_step, refl, run_starts, take, take_all, takes_then, ℕ, ◌+◌, ◌-◌, ◌≡◌}
use Rattle.nap_reader.proofs.machine.Machine.open.Goals as goal

-- the bytes after the opcode
bytes_after : (bytes : List ℕ) (at : ℕ) → take (length bytes - (at + 1)) (drop (at + 1) bytes) ≡ drop (at + 1) bytes
bytes_after bytes at = take_all (length bytes - (at + 1)) (drop (at + 1) bytes) (omega (arith, length-drop (at + 1) bytes))

pub overflow_add-result-2 : goal.overflow_add-result-2
overflow_add-result-2 g c =
    let bytes = c.args.slice.now.bytes.now in
    let rest = take (length bytes - (c.args.at + 1)) (drop (c.args.at + 1) bytes) in
    omega (arith, c.join-taken.ensures.takes.within, length-placed_by_step c.place_of-2.result c.args.slice.now.step rest, ap length (bytes_after bytes c.args.at), length-drop (c.args.at + 1) bytes, c.requires.within)

pub returns-clause-takes : goal.returns-clause-takes
returns-clause-takes g c =
    let takes = rw (c.place_of-2.ensures, bytes_after c.args.slice.now.bytes.now c.args.at) at c.join-taken.ensures.takes in (
      1 + c.join-taken.result.count,
      omega arith,
      takes_then
          (run_starts c.requires.closed c.requires.is (ap (λ (place : ℕ). Some (record { op = c.args.op; place = place })) c.place_of.ensures) c.clear.ensures.items (refl, refl, refl) (kept_as c.clear.ensures.capacity refl) c.requires.live) takes refl,
    )
