use Rattle.nap_reader.proofs.{All-cons, All-nil, IsPlain, Lawful, Some, Store, [], adds_none, ap, arith, body_fills, body_goes, body_lacks, can_pass, fill_passes, goes_less, is_of_body, keep_lacks, lone_escape, moves_then, next_same, other_lacks, own_tells, passes_next, placed_at, plain_added, plain_slice, prefix_len-le-length, refl, refusal, same_input, slice_passes, some_plain, stops_from, stores_moves, take, ℕ, ◌+◌, ◌∙◌, ◌∷◌}
use Rattle.nap_reader.proofs.machine.Machine.keep.Goals as goal

pub advance-requires : goal.advance-requires
advance-requires g c = can_pass (next_same c.requires.next (stores_moves c.set_body.ensures refl))

pub returns-then-next-eq27-clause-goes : goal.returns-then-next-eq27-clause-goes
returns-then-next-eq27-clause-goes g c =
    body_goes c.args.self.now c.requires.open (lone_escape _ (placed_at c.args.next.byte c.args.next.place) c.if-next-eq27.true) (passes_next c.requires.next) (ap (take 1) c.requires.next.is)
    (adds_none (moves_then 1 (omega arith) (stores_moves c.set_body.ensures refl) c.advance.ensures c.set_body.ensures.store_is c.set_body.ensures.body)) c.requires.live (omega arith)

pub place_of-place-requires : goal.place_of-place-requires
place_of-place-requires g c = omega (arith, c.body_prefix_len-count.ensures, prefix_len-le-length is_of_body c.in-Some.slice.bytes.now, c.if-count-space.true)

pub advance-requires-then-count-space : goal.advance-requires-then-count-space
advance-requires-then-count-space g c = (c.args.piece.now, slice_passes c.in-Some.ensures (omega (arith, c.body_prefix_len-count.ensures, c.if-count-space.true)))

pub advance-requires-then-count-space-2 : goal.advance-requires-then-count-space-2
advance-requires-then-count-space-2 g c =
    fill_passes c.requires.next.reads c.in-Some.ensures (omega (arith, c.body_prefix_len-count.ensures, prefix_len-le-length is_of_body c.in-Some.slice.bytes.now, c.if-count-space.true)) c.advance-then-count-space.ensures

pub returns-then-count-space-clause-goes : goal.returns-then-count-space-clause-goes
returns-then-count-space-clause-goes g c =
    let laws : Lawful g.S.Sink = record { more = g.met.S.Sink.took_more; broken = g.met.S.Sink.took_broke; wants = g.met.S.Sink.wants_more; none = g.met.S.Sink.took_none } in
    let m = c.args.self.now in
    let next = c.in-Some.ensures in
    let space = c.space_left-space.result in
    let is = c.refuse.ensures.latched.is ∙ ap (λ (n : ℕ). Some (refusal Store n)) c.place_of-place.ensures in
    rw c.refuse.ensures.answer
    (stops_from laws is (rw c.refuse.ensures.latched.sink (own_tells g.S.Sink m.sink {fault = Store} (λ own. cc))) (other_lacks {fault = Store} (λ own. cc)) (moves_then (space + 1) refl c.advance-then-count-space.ensures c.advance-then-count-space-2.ensures refl refl)
    (rw c.refuse.ensures.latched.sink
    (body_fills m c.requires.open next space (omega (arith, c.body_prefix_len-count.ensures, c.if-count-space.true)) (omega (arith, c.space_left-space.ensures)))))

pub keep-requires-clause-next : goal.keep-requires-clause-next
keep-requires-clause-next g c = slice_passes c.in-Some.ensures (omega (arith, c.body_prefix_len-count.ensures))

pub returns-in_default-keep-clause-goes : goal.returns-in_default-keep-clause-goes
returns-in_default-keep-clause-goes g c =
    let plain : IsPlain c.args.next.byte = record { low = c.requires.low; other = c.if-next-eq27.false } in
    let some = some_plain c.requires.next.reads c.in-Some.ensures c.requires.next plain in
    (c.refuse_next.ensures.stops 1 _ _ _ _ _ _ (same_input c.in_default-keep.ensures.err) c.requires.next (λ own. cc)
    (keep_lacks c.args.input.now _ refl refl c.in_default-keep.ensures.full (omega (arith, c.space_left-space.ensures, c.if-count-space.false)))
    (body_lacks c.requires.open (plain_added _ (placed_at c.args.next.byte c.args.next.place ∷ []) (All-cons IsPlain c.args.next.byte [] plain (All-nil IsPlain))
    (omega (arith, some, c.body_prefix_len-count.ensures, c.space_left-space.ensures, c.if-count-space.false)))))

pub returns-clause-goes : goal.returns-clause-goes
returns-clause-goes g c =
    let next = c.in-Some.ensures in
    let some = some_plain c.requires.next.reads next c.requires.next (record { low = c.requires.low; other = c.if-next-eq27.false }) in
    let plain = plain_slice next c.body_prefix_len-count.result (omega (arith, c.body_prefix_len-count.ensures)) in
    let keeps = c.in-Ok.ensures.ok in
    goes_less 1 (omega (arith, some, c.body_prefix_len-count.ensures))
    (body_goes c.args.self.now c.requires.open (plain_added _ _ plain.0 (omega (arith, plain.1, c.space_left-space.ensures, c.if-count-space.false))) (slice_passes next (omega (arith, c.body_prefix_len-count.ensures))) refl
    (simp c.requires.open at keeps) c.requires.live (omega (arith, plain.1, some, c.body_prefix_len-count.ensures)))
