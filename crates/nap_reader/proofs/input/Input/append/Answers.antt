use Rattle.nap_reader.proofs.{exceeds_in, Frame, List, Placed, ap, arith, bytes_of, bytes_of-placed, drop, grown, last-frame, length, length-take, placed_from, refl, store_grown, StoreState, sym, take, take-map, taken_inside, unread, ℕ, ◌++◌, ◌+◌, ◌-◌, ◌∙◌, ◌≡◌, on_ok_weaker}
use Rattle.nap_reader.proofs.input.Input.append.Goals as goal

pub extend_within-requires-clause-within : goal.extend_within-requires-clause-within
extend_within-requires-clause-within c =
    let input = c.args.self.now in
    let (before, frame, last, is) = c.in-Some.ensures in
    omega (arith, is, (last-frame (length input.store.bytes) input.frames.stack.items before frame last input.framed).1, c.requires.next.of_body before frame last)

pub invariant_of-self : goal.invariant_of-self
invariant_of-self c = grind (arith, length-take, grown)

pub returns-in-Some-clause-ok : goal.returns-in-Some-clause-ok
returns-in-Some-clause-ok c =
    let input = c.args.self.now in
    let (before, frame, last, next) = c.in-Some.ensures in
    let in_store = last-frame (length input.store.bytes) input.frames.stack.items before frame last input.framed in
    let bytes = taken_inside input.store.bytes before frame (placed_from input.fed (drop input.at c.args.piece.now)) c.args.count in_store (c.requires.next.of_body before frame last) in
    on_ok_weaker c.extend_within.result (λ kept. grind (arith, bytes, kept)) c.extend_within.ensures.ok

pub returns-in-None-clause-ok : goal.returns-in-None-clause-ok
returns-in-None-clause-ok c =
    let input = c.args.self.now in
    let count = c.args.count in
    let following = drop input.at c.args.piece.now in
    let same : input.at + count - input.at ≡ count = omega arith in
    let bytes = ap (λ (n : ℕ). take n following) same ∙ ap (take count) (sym (bytes_of-placed input.fed following)) ∙ take-map (λ (x : Placed). x.byte) count (placed_from input.fed following)
    ∙ ap (λ (frames : List Frame). bytes_of (take count (unread input.store.bytes frames ++ placed_from input.fed following))) (sym c.in-None.ensures) in
    on_ok_weaker c.extend.result (λ grown. record { frames = refl; at = refl; fed = refl; turns = refl; budget = refl; charged = refl; promise = ap (λ (t : StoreState). t.promise) grown; store_is = grown ∙ ap (store_grown input.store) bytes; body = refl }) c.extend.ensures.ok

pub returns-in-Some-clause-full : goal.returns-in-Some-clause-full
returns-in-Some-clause-full c = exceeds_in c.args.self.now c.args.count c.extend_within.result c.extend_within.ensures.full
