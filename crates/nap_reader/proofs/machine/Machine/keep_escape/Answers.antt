use Rattle.nap_reader.proofs.{IsNextByte, Option, StoreState, [], ap, append_assoc, arith, body_goes, body_lacks, body_stops, bytes_of, can_pass, either_added, escape_added, escape_full, grown_moves, keep_lacks, length, length-append, moves_then, next_same, other_lacks, pair_added, pair_full, passes_next, placed_at, refl, same_input, store_limit, stores_moves, take, ℕ, ◌+◌, ◌-◌, ◌∙◌, ◌∷◌, ◌≡◌, ◌≢◌, ◌≤◌, unwrap_or}
use Rattle.nap_reader.proofs.machine.Machine.keep_escape.Goals as goal
use Rattle.nap_reader.proofs.machine.Machine.keep_escape.Goals.{After-keep_escape, In-Ok}

pub refuse_next-requires : goal.refuse_next-requires
refuse_next-requires g c = can_pass c.requires.next

pub returns-then-space-eq0-clause-goes : goal.returns-then-space-eq0-clause-goes
returns-then-space-eq0-clause-goes g c =
    let following = c.requires.following in
    let place : c.unwrap_or-place.result ≡ following.escape = c.unwrap_or-place.ensures ∙ ap (λ (o : Option ℕ). unwrap_or o c.args.next.place) following.retained in
    (c.refuse_next.ensures.stops 1 _ _ _ _ _ _ (same_input refl) c.requires.next (λ own. cc) (other_lacks (λ own. cc))
    (rw place (body_stops following.opened 0 refl (λ more. (escape_full _ c.args.next.byte (bytes_of more) c.requires.low following.ends (omega (arith, c.space_left-space.ensures, c.if-space-eq0.true)), refl)))))

pub refuse_next-requires-then-next-ne27 : goal.refuse_next-requires-then-next-ne27
refuse_next-requires-then-next-ne27 g c = can_pass c.requires.next

pub returns-then-next-ne27-clause-goes : goal.returns-then-next-ne27-clause-goes
returns-then-next-ne27-clause-goes g c =
    (c.refuse_next-then-next-ne27.ensures.stops 1 _ _ _ _ _ _ (same_input refl) c.requires.next (λ own. cc) (other_lacks (λ own. cc))
    (body_stops c.requires.following.opened 1 refl (λ more. (pair_full _ c.args.next.byte (bytes_of more) (record { low = c.requires.low; other = c.if-next-ne27.true }) c.requires.following.ends (omega (arith, c.space_left-space.ensures, c.if-space-eq1.true)), refl))))

pub refuse_next-requires-in_default : goal.refuse_next-requires-in_default
refuse_next-requires-in_default g c = can_pass (next_same c.requires.next (same_input c.in_default.ensures.err))

-- the body has space for the ESC and the byte, if that is no ESC
two_left : (g : _) → (c : After-keep_escape g) → c.args.next.byte ≢ 27 → 2 ≤ store_limit - c.args.input.now.store.stored - length c.args.input.now.store.body
two_left g c other = elim c.else-space-eq1.branch [
  | goal.else-space-eq1-via-then-space-eq1+else-next-ne27 w ↦ absurd (other w.if-next-ne27.false)
  | goal.else-space-eq1-via-else-space-eq1 w ↦ omega (arith, c.space_left-space.ensures, c.if-space-eq0.false, w.if-space-eq1.false)
]

pub returns-in_default-clause-goes : goal.returns-in_default-clause-goes
returns-in_default-clause-goes g c =
    let following = c.requires.following in
    let adds =
    either_added _ following.escape (placed_at c.args.next.byte c.args.next.place) c.requires.low following.ends (omega (arith, c.space_left-space.ensures, c.if-space-eq0.false))
    (two_left g (goal.at.returns-in_default-clause-goes g c).After-keep_escape) in
    c.refuse_next-in_default.ensures.stops 1 _ _ _ _ _ _ (same_input c.in_default.ensures.err) c.requires.next (λ own. cc)
    (keep_lacks c.args.input.now _ refl refl c.in_default.ensures.full (omega (arith, c.space_left-space.ensures, c.if-space-eq0.false))) (body_lacks following.opened adds.2)

-- the ESC is of the body, and the byte still comes next
still_next : (g : _) → (c : In-Ok g) → IsNextByte c.keep_escape.new.self c.args.piece.now c.args.next.byte c.args.next.place
still_next g c = next_same c.requires.next (grown_moves _ c.in-Ok.ensures.ok)

pub advance-requires : goal.advance-requires
advance-requires g c = can_pass (next_same (still_next g (goal.at.advance-requires g c).In-Ok) (stores_moves c.set_body.ensures refl))

pub returns-then-next-eq27-clause-goes : goal.returns-then-next-eq27-clause-goes
returns-then-next-eq27-clause-goes g c =
    let first = c.in-Ok.ensures.ok in
    let hold = c.set_body.ensures in
    let following = c.requires.following in
    body_goes c.args.self.now following.opened (escape_added _ following.escape (placed_at c.args.next.byte c.args.next.place) c.if-next-eq27.true (omega (arith, c.space_left-space.ensures, c.if-space-eq0.false)))
    (passes_next c.requires.next) (ap (take 1) c.requires.next.is)
    (moves_then 1 (omega arith) (moves_then 0 (omega arith) (grown_moves _ first) (stores_moves hold refl) first.store_is refl) c.advance.ensures (hold.store_is ∙ first.store_is) hold.body) c.requires.live (omega arith)

pub keep-requires-clause-next : goal.keep-requires-clause-next
keep-requires-clause-next g c = passes_next (still_next g (goal.at.keep-requires-clause-next g c).In-Ok)

-- the body has space for the byte after the ESC
keep_requires : (g : _) → (c : In-Ok g) → 2 ≤ store_limit - c.args.input.now.store.stored - length c.args.input.now.store.body → c.keep_escape.new.self.store.stored + length c.keep_escape.new.self.store.body + 1 ≤ store_limit
keep_requires g c two =
    omega (arith, (ap (λ (store : StoreState). store.stored + length store.body) c.in-Ok.ensures.ok.store_is), length-append c.args.input.now.store.body (27 ∷ []), two)

pub keep-requires-clause-few : goal.keep-requires-clause-few
keep-requires-clause-few g c = keep_requires g (goal.at.keep-requires-clause-few g c).In-Ok (two_left g (goal.at.keep-requires-clause-few g c).After-keep_escape c.if-next-eq27.false)

pub refuse_next-requires-in_default-keep : goal.refuse_next-requires-in_default-keep
refuse_next-requires-in_default-keep g c = can_pass (next_same (still_next g (goal.at.refuse_next-requires-in_default-keep g c).In-Ok) (same_input c.in_default-keep.ensures.err))

pub returns-in_default-keep-clause-goes : goal.returns-in_default-keep-clause-goes
returns-in_default-keep-clause-goes g c =
    let input = c.args.input.now in
    let two = two_left g (goal.at.returns-in_default-keep-clause-goes g c).After-keep_escape c.if-next-eq27.false in
    (c.refuse_next-in_default-keep.ensures.stops 1 _ _ _ _ _ _ (moves_then 0 (omega arith) (grown_moves _ c.in-Ok.ensures.ok) (same_input c.in_default-keep.ensures.err) refl refl) c.requires.next (λ own. cc)
    (keep_lacks c.keep_escape.new.self _ c.in-Ok.ensures.ok.promise c.in-Ok.ensures.ok.charged c.in_default-keep.ensures.full (keep_requires g (goal.at.returns-in_default-keep-clause-goes g c).In-Ok two))
    (body_lacks c.requires.following.opened (pair_added _ c.requires.following.escape (placed_at c.args.next.byte c.args.next.place) (record { low = c.requires.low; other = c.if-next-eq27.false }) c.requires.following.ends two)))

pub returns-clause-goes : goal.returns-clause-goes
returns-clause-goes g c =
    let input = c.args.input.now in
    let following = c.requires.following in
    let first = c.in-Ok.ensures.ok in
    let keeps = c.in-Ok-keep.ensures.ok in
    body_goes c.args.self.now following.opened
    (pair_added _ following.escape (placed_at c.args.next.byte c.args.next.place) (record { low = c.requires.low; other = c.if-next-eq27.false }) following.ends (two_left g (goal.at.returns-clause-goes g c).After-keep_escape c.if-next-eq27.false))
    (passes_next c.requires.next) (ap (take 1) c.requires.next.is) (moves_then 1 (omega arith) (grown_moves _ first) keeps
    (simp ((still_next g (goal.at.returns-clause-goes g c).In-Ok).is, first.store_is, append_assoc input.store.bytes (27 ∷ []) (c.args.next.byte ∷ []), append_assoc input.store.body (27 ∷ []) (c.args.next.byte ∷ [])) refl) first.body)
    c.requires.live (omega arith)
