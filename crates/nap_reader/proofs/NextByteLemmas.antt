use Rattle.nap_reader.proofs.Common.{All, All-append, All-cons, All-head, All-nil, All-pop, All-replicate, All-tail, Bool, CanAdvance, CanPass, Exceeds, Frame, FramesIn, Innermost, Input, IsBefore, IsFrame, IsNextByte, IsNextText, IsOver, IsStore, List, None, OnErr, OnOk, Placed, Position, Promise, Reads, Result, Some, Span, StoreState, [], add-zero, all_at, ap, append-nil, append_assoc, ap₂, arith, begun, bytes_from, bytes_of, drop, drop-append-le, drop-append_seam, drop-drop, drop-map, drop-take, drop_all, drop_more, drop_of_length-le, false, frame_bytes, get_or, if◌then◌else◌, length, length-append, length-drop, length-map, length-take, map, map-set, next_bytes, nil_from_length, no_names, place_at, placed_at, placed_by_step, placed_from, position_of, promised, refl, replicate, same_from_push, set, slice_get, store_bound, store_grown, store_limit, store_shown, sublist, sublist_at, subst, suc, sym, take, take-append-le, take-append_seam, take-map, take-take, take_rest, true, unread, unread_of, zero, ℕ, ◌*◌, ◌++◌, ◌+◌, ◌-◌, ◌<◌, ◌∙◌, ◌∷◌, ◌≡◌, ◌≢◌, ◌≤◌}
use Rattle.nap_reader.proofs.StreamLemmas.{bytes_of-all_at, bytes_of-append, bytes_of-placed, length-all_at}

-- a part of a list is unchanged by more bytes at the end of the list
pub sublist-store_grown : (bytes more : List ℕ) (start end : ℕ) → start ≤ end → end ≤ length bytes → sublist (bytes ++ more) start end ≡ sublist bytes start end
sublist-store_grown bytes more start end h within = grind (arith, drop-append-le, take-append-le, length-drop)

pub bodies-store_grown : (bytes more : List ℕ) (n : ℕ) (spans : List Span) → n ≤ length bytes → All (IsBefore n) spans →
    map (sublist_at (bytes ++ more)) spans ≡ map (sublist_at bytes) spans
bodies-store_grown bytes more n [] h all = refl
bodies-store_grown bytes more n (span ∷ spans) h all =
    let first = All-head (IsBefore n) span spans all in
    let same = sublist-store_grown bytes more span.start span.end first.0 (omega (arith, first.1, h)) in
    let rest = bodies-store_grown bytes more n spans h (All-tail (IsBefore n) span spans all) in
    ap (λ (body : List ℕ). body ∷ map (sublist_at (bytes ++ more)) spans) same ∙ ap (λ (bodies : List (List ℕ)). sublist_at bytes span ∷ bodies) rest

-- the state of a store with these fields
abbrev pub state_of : List ℕ → List Span → ℕ → ℕ → Promise → StoreState
state_of bytes spans from stored promise = record { names = map (sublist_at bytes) spans; bytes = bytes; body = drop from bytes; stored = stored; promise = promise }

-- no name is bound
pub none_bound : {bytes : List ℕ} {from stored : ℕ} {promise : Promise} {space : ℕ} {bound : Bool} → from ≤ length bytes → stored + (length bytes - from) ≤ store_limit → promised promise ≤ space →
    IsStore bytes (replicate 96 (record { start = 0; end = 0 })) from stored promise space × (bound ≡ false → map (sublist_at bytes) (replicate 96 (record { start = 0; end = 0 })) ≡ no_names)
none_bound {from = from} begun few kept = (record { bound = All-replicate (IsBefore from) 96 _ (omega arith, omega arith); all = refl; begun = begun; few = few; kept = kept }, λ _. refl)

-- what is known of a store is known still, whether bytes were appended or not
pub still_known : {bytes : List ℕ} {spans : List Span} {from stored : ℕ} {promise : Promise} {space space' : ℕ} {bound : Bool} {old : StoreState} (more : List ℕ) {new : List ℕ} → IsStore bytes spans from stored promise space × (bound ≡ false → map (sublist_at bytes) spans ≡ no_names) →
    state_of bytes spans from stored promise ≡ old → old.stored + length old.body + length more ≤ store_limit → space ≤ space' → (ok : Bool) → new ≡ (if ok then bytes ++ more else bytes) → IsStore new spans from stored promise space' × (bound ≡ false → map (sublist_at new) spans ≡ no_names)
still_known more h k e is ok so = grind (arith, length-append, length-drop, bodies-store_grown)

pub grown_by : (more : List ℕ) {bytes new : List ℕ} {spans : List Span} {from stored : ℕ} {promise : Promise} {space : ℕ} {old : StoreState} → IsStore bytes spans from stored promise space → state_of bytes spans from stored promise ≡ old → new ≡ bytes ++ more → state_of new spans from stored promise ≡ store_grown old more
grown_by more {bytes} {spans = spans} {from} store view is = grind (arith, bodies-store_grown, drop-append-le)

pub bound : (bytes : List ℕ) (spans : List Span) (from stored : ℕ) (promise : Promise) (name end : ℕ) → from ≤ length bytes → end ≡ length bytes →
    state_of bytes (set spans (name - 32) (record { start = from; end = end })) end (stored + (end - from)) promise
    ≡ store_bound (state_of bytes spans from stored promise) name
bound bytes spans from stored promise name end h all = grind (arith, map-set, take_rest, drop_of_length-le, length-drop)

pub bound_grown : (bytes : List ℕ) (spans : List Span) (from stored : ℕ) (promise : Promise) (name ender end : ℕ) → All (IsBefore from) spans → from ≤ length bytes → end ≡ length bytes →
    state_of (bytes ++ 0x1B ∷ ender ∷ []) (set spans (name - 32) (record { start = from; end = end })) (length (bytes ++ 0x1B ∷ ender ∷ [])) (stored + (end - from)) promise
    ≡ store_shown (state_of bytes spans from stored promise) name ender
bound_grown bytes spans from stored promise name ender end all h same = grind (arith, bodies-store_grown, sublist-store_grown, take_rest, map-set, drop_of_length-le, length-drop)

-- the store had no memory for some bytes more
pub exceeds_in : {E : Type 0} (input : Input) (n : ℕ) (r : Result (Unit {0}) E) → OnErr r (promised input.store.promise < length input.store.bytes + n) →
    OnErr r (Exceeds input.store.promise (input.store.stored + length input.store.body + n) input.charged)
exceeds_in input n r h = grind arith

-- one more body is read
pub unread-push : (bytes : List ℕ) (frames : List Frame) (frame : Frame) →
    unread bytes (frames ++ frame ∷ []) ≡ frame_bytes bytes frame ++ unread bytes frames
unread-push bytes [] frame = sym (append-nil (frame_bytes bytes frame))
unread-push bytes (first ∷ frames) frame =
    ap (λ (xs : List Placed). xs ++ frame_bytes bytes first) (unread-push bytes frames frame)
    ∙ append_assoc (frame_bytes bytes frame) (unread bytes frames) (frame_bytes bytes first)

-- a part without its first bytes
drop-sublist : (bytes : List ℕ) (next end count : ℕ) → count ≤ end - next → drop count (sublist bytes next end) ≡ sublist bytes (next + count) end
drop-sublist bytes next end count less =
    let all : end - next ≡ count + (end - (next + count)) = omega (arith, less) in
    ap (λ (n : ℕ). drop count (take n (drop next bytes))) all ∙ drop-take count (end - (next + count)) (drop next bytes) ∙ ap (take (end - (next + count))) (drop-drop count next bytes)

-- the innermost body has given this number of bytes
pub gives : (bytes : List ℕ) (frames : List Frame) (frame : Frame) (count : ℕ) → frame.next + count ≤ frame.end → frame.end ≤ length bytes →
    drop count (unread bytes (frames ++ frame ∷ [])) ≡ frame_bytes bytes (record frame { next = frame.next + count }) ++ unread bytes frames
gives bytes frames frame count less within = grind (arith, unread-push, drop-append-le, length-all_at, length-take, length-drop, drop-map, drop-sublist)

-- the unread bytes are unchanged when bytes are added to the store
pub unread-store_grown : (bytes more : List ℕ) (frames : List Frame) → FramesIn (length bytes) frames → unread (bytes ++ more) frames ≡ unread bytes frames
unread-store_grown bytes more [] h = refl
unread-store_grown bytes more (frame ∷ frames) h =
    let first = All-head (IsFrame (length bytes)) frame frames h in
    let same = sublist-store_grown bytes more frame.next frame.end (omega (arith, first.0)) first.1 in
    ap (λ (xs : List ℕ). unread (bytes ++ more) frames ++ all_at frame.place xs) same
    ∙ ap (λ (xs : List Placed). xs ++ frame_bytes bytes frame) (unread-store_grown bytes more frames (All-tail (IsFrame (length bytes)) frame frames h))

pub last-frame : (n : ℕ) (frames before : List Frame) (frame : Frame) → frames ≡ before ++ frame ∷ [] → FramesIn n frames → IsFrame n frame
last-frame n frames before frame e h = (All-pop (IsFrame n) frames before (Some frame) e h).1

pub length-sublist : (bytes : List ℕ) (start end : ℕ) → start ≤ end → end ≤ length bytes → length (sublist bytes start end) ≡ end - start
length-sublist bytes start end h within = length-take (end - start) (drop start bytes) ∙ omega (arith, length-drop start bytes)

-- the number of unread bytes with one more body
pub length-unread-push : (bytes : List ℕ) (frames : List Frame) (frame : Frame) → IsFrame (length bytes) frame →
    length (unread bytes (frames ++ frame ∷ [])) ≡ length (unread bytes frames) + (frame.end - frame.next)
length-unread-push bytes frames frame h = grind (arith, unread-push, length-append, length-all_at, length-sublist)

-- each body that is read has an unread byte
pub frames-unread : (bytes : List ℕ) (frames : List Frame) → FramesIn (length bytes) frames → length frames ≤ length (unread bytes frames)
frames-unread bytes [] h = omega arith
frames-unread bytes (frame ∷ frames) h =
    let first = All-head (IsFrame (length bytes)) frame frames h in
    let rest = frames-unread bytes frames (All-tail (IsFrame (length bytes)) frame frames h) in
    let count = length-all_at frame.place (sublist bytes frame.next frame.end) ∙ length-sublist bytes frame.next frame.end (omega (arith, first.0)) first.1 in
    omega (arith, rest, first.0, count, length-append (unread bytes frames) (frame_bytes bytes frame))

-- the unread bytes are unchanged when the open body grows
pub unread-store : (old new : StoreState) (more : List ℕ) (frames : List Frame) → new.bytes ≡ old.bytes ++ more → FramesIn (length old.bytes) frames →
    unread new.bytes frames ≡ unread old.bytes frames
unread-store old new more frames e h = ap (λ (bytes : List ℕ). unread bytes frames) e ∙ unread-store_grown old.bytes more frames h

pub frames-store : (old new : StoreState) (more : List ℕ) (frames : List Frame) → new.bytes ≡ old.bytes ++ more → FramesIn (length old.bytes) frames →
    FramesIn (length new.bytes) frames
frames-store old new more frames e h = λ k d within. let one = h k d within in (one.0, omega (arith, one.1, ap length e, length-append old.bytes more))

-- one more body is within the store
pub frames-push : (n : ℕ) (frames : List Frame) (frame : Frame) → FramesIn n frames → IsFrame n frame → FramesIn n (frames ++ frame ∷ [])
frames-push n frames frame h is = All-append (IsFrame n) frames (frame ∷ []) h (All-cons (IsFrame n) frame [] is (All-nil (IsFrame n)))

-- The bytes of a slice after its first n.

pub drop-placed_by_step : (place step : ℕ) (bs : List ℕ) (n : ℕ) → drop n (placed_by_step place step bs) ≡ placed_by_step (place + step * n) step (drop n bs)
unfolding placed_by_step
drop-placed_by_step place step bs zero = ap (λ (p : ℕ). placed_by_step p step bs) (let e : place ≡ place + step * 0 = grind arith in e)
drop-placed_by_step place step [] (suc n) = refl
drop-placed_by_step place step (b ∷ bs) (suc n) = drop-placed_by_step (place + step) step bs n ∙ ap (λ (p : ℕ). placed_by_step p step (drop n bs)) (let e : place + step + step * n ≡ place + step * suc n = grind arith in e)

-- the byte of a slice at an index, and those after it
pub byte-placed_by_step : (place step : ℕ) (bs : List ℕ) (n : ℕ) → n < length bs → drop n (placed_by_step place step bs) ≡ placed_at (get_or bs n 0) (place + step * n) ∷ placed_by_step (place + step * (n + 1)) step (drop (n + 1) bs)
unfolding placed_by_step
byte-placed_by_step place step bs n less = grind (arith, drop-placed_by_step, drop_more)

-- the first of some bytes
pub first_of : (xs : List Placed) (b : ℕ) (bs : List ℕ) → bytes_of xs ≡ b ∷ bs → (x : Placed) × (ys : List Placed) × (xs ≡ x ∷ ys) × (x.byte ≡ b) × (bytes_of ys ≡ bs)
first_of [] b bs is = absurd (omega (arith, ap length is))
first_of (x ∷ xs) b bs is = (x, xs, refl, ap (λ (cs : List ℕ). get_or cs 0 0) is, ap (drop 1) is)

pub first_byte : (bytes : List ℕ) (b : ℕ) → slice_get bytes 0 ≡ Some b → (rest : List ℕ) × (bytes ≡ b ∷ rest)
first_byte [] b some = let bad : None ≡ Some b = some in cc
first_byte (c ∷ rest) b some = let same : c ≡ b = cc in (rest, ap (λ (b : ℕ). b ∷ rest) same)

-- the bytes of a list in two parts
pub split_bytes : (all : List Placed) (p q : List ℕ) → bytes_of all ≡ p ++ q → (bytes_of (take (length p) all) ≡ p) × (bytes_of (drop (length p) all) ≡ q)
split_bytes all p q is = (
  sym (take-map (λ (x : Placed). x.byte) (length p) all) ∙ ap (take (length p)) is ∙ take-append_seam p q,
  sym (drop-map (λ (x : Placed). x.byte) (length p) all) ∙ ap (drop (length p)) is ∙ drop-append_seam p q,
)

-- The next bytes, and those consumed of them.

-- the places of bytes in the piece, and in a body
pub placed_by_step-one : (place : ℕ) (bs : List ℕ) → placed_by_step place 1 bs ≡ placed_from place bs
unfolding placed_by_step placed_from
placed_by_step-one place [] = refl
placed_by_step-one place (b ∷ bs) = ap (λ (xs : List Placed). placed_at b place ∷ xs) (ap (λ (n : ℕ). placed_by_step n 1 bs) (let e : place + 1 ≡ suc place = omega arith in e) ∙ placed_by_step-one (suc place) bs)

pub placed_by_step-none : (place : ℕ) (bs : List ℕ) → placed_by_step place 0 bs ≡ all_at place bs
unfolding placed_by_step
placed_by_step-none place [] = refl
placed_by_step-none place (b ∷ bs) = ap (λ (xs : List Placed). placed_at b place ∷ xs) (ap (λ (n : ℕ). placed_by_step n 0 bs) (let e : place + 0 ≡ place = omega arith in e) ∙ placed_by_step-none place bs)

pub bytes_of-placed_by_step : (place step : ℕ) (bs : List ℕ) → bytes_of (placed_by_step place step bs) ≡ bs
unfolding placed_by_step
bytes_of-placed_by_step place step [] = refl
bytes_of-placed_by_step place step (b ∷ bs) = ap (λ (cs : List ℕ). b ∷ cs) (bytes_of-placed_by_step (place + step) step bs)

pub length-placed_by_step : (place step : ℕ) (bs : List ℕ) → length (placed_by_step place step bs) ≡ length bs
length-placed_by_step place step bs = sym (length-map (placed_by_step place step bs) (λ (x : Placed). x.byte)) ∙ ap length (bytes_of-placed_by_step place step bs)

pub length-placed : (n : ℕ) (bs : List ℕ) → length (placed_from n bs) ≡ length bs
length-placed n bs = sym (length-map (placed_from n bs) (λ (x : Placed). x.byte)) ∙ ap length (bytes_of-placed n bs)

take-placed : (k n : ℕ) (bs : List ℕ) → take k (placed_from n bs) ≡ placed_from n (take k bs)
unfolding placed_from
take-placed zero n bs = refl
take-placed (suc k) n [] = refl
take-placed (suc k) n (b ∷ bs) = ap (λ (xs : List Placed). placed_at b n ∷ xs) (take-placed k (suc n) bs)

drop-placed : (k n : ℕ) (bs : List ℕ) → drop k (placed_from n bs) ≡ placed_from (n + k) (drop k bs)
unfolding placed_from
drop-placed zero n bs = ap (λ (m : ℕ). placed_from m bs) (omega arith)
drop-placed (suc k) n [] = refl
drop-placed (suc k) n (b ∷ bs) = drop-placed k (suc n) bs ∙ ap (λ (m : ℕ). placed_from m (drop k bs)) (let e : suc n + k ≡ n + suc k = omega arith in e)

-- the bytes that come next, without the first n
pub drop_next : (frames : List Placed) (place at n : ℕ) (piece : List ℕ) →
    drop n (frames ++ placed_from place (drop at piece)) ≡ drop n frames ++ placed_from (place + (n - length frames)) (drop (at + (n - length frames)) piece)
drop_next [] place at n piece =
    let all : n - 0 ≡ n = omega arith in
    rw (all, (drop_all {X = Placed} n [] (omega arith))) (drop-placed n place (drop at piece) ∙ ap (placed_from (place + n)) (drop-drop n at piece))
drop_next (x ∷ xs) place at zero piece =
    let none : 0 - suc (length xs) ≡ 0 = omega arith in
    rw (none, add-zero, add-zero) refl
drop_next (x ∷ xs) place at (suc n) piece = let less : suc n - suc (length xs) ≡ n - length xs = omega arith in rw less (drop_next xs place at n piece)

-- the bytes of bodies and those bytes of the piece that are among the first n: the first n, and those left of bodies
pub take_next : (frames : List Placed) (place : ℕ) (bs : List ℕ) (n : ℕ) → frames ++ placed_from place (take (n - length frames) bs) ≡ take n (frames ++ placed_from place bs) ++ drop n frames
unfolding placed_from
take_next [] place bs n =
    let all : n - 0 ≡ n = omega arith in
    rw (all, (drop_all {X = Placed} n [] (omega arith)), append-nil) (sym (take-placed n place bs))
take_next (x ∷ xs) place bs zero = let none : 0 - suc (length xs) ≡ 0 = omega arith in rw none (ap (λ (ys : List Placed). x ∷ ys) (append-nil xs))
take_next (x ∷ xs) place bs (suc n) =
    let less : suc n - suc (length xs) ≡ n - length xs = omega arith in
    rw less (ap (λ (ys : List Placed). x ∷ ys) (take_next xs place bs n))

-- the number of the next bytes
pub length-next : (p : Position) (piece : List ℕ) → length (bytes_from p piece) ≡ length p.frames + (length piece - p.at)
length-next p piece = grind (arith, length-append, length-placed, length-drop)

-- The next byte can be passed.
pub can_next : {input : Input} {piece : List ℕ} → Reads input piece → 0 < length (next_bytes input piece) → CanPass input piece 1
can_next {input} {piece} reads some = record {
  reads = reads;
  of_piece = λ none. omega (arith, some, length-next (position_of input) piece, ap (λ (frames : List Frame). length (unread input.store.bytes frames)) none);
  of_body = λ before frame is. let in_store = last-frame (length input.store.bytes) input.frames.stack.items before frame is input.framed in omega (arith, in_store.0);
}

pub passes_next : {input : Input} {piece : List ℕ} {byte place : ℕ} → IsNextByte input piece byte place → CanPass input piece 1
passes_next next = can_next next.reads (omega (arith, ap (λ (xs : List Placed). length xs) next.is))

pub can_pass : {input : Input} {piece : List ℕ} {byte place : ℕ} → IsNextByte input piece byte place → CanAdvance input 1
can_pass next = (_, passes_next next)

-- fewer bytes can be passed
pub can_less : {input : Input} {piece : List ℕ} {n : ℕ} (k : ℕ) → k ≤ n → CanPass input piece n → CanPass input piece k
can_less k few can = grind arith

-- they are of bodies, unless no body is being read
inside_last : (bytes : List ℕ) (first : Frame) (others : List Frame) (n : ℕ) → FramesIn (length bytes) (first ∷ others) → ((before : List Frame) (frame : Frame) → first ∷ others ≡ before ++ frame ∷ [] → frame.next + n ≤ frame.end) → n ≤ length (unread bytes (first ∷ others))
inside_last bytes first [] n framed fits =
    let in_store = All-head (IsFrame (length bytes)) first [] framed in
    let all = fits [] first refl in
    omega (arith, all, length-all_at first.place (sublist bytes first.next first.end), length-sublist bytes first.next first.end (omega (arith, in_store.0)) in_store.1)
inside_last bytes first (second ∷ others) n framed fits =
    let less = inside_last bytes second others n (All-tail (IsFrame (length bytes)) first (second ∷ others) framed) (λ before last is. fits (first ∷ before) last (ap (λ (fs : List Frame). first ∷ fs) is)) in
    omega (arith, less, length-append (unread bytes (second ∷ others)) (frame_bytes bytes first))

pub can_inside : {input : Input} {piece : List ℕ} {n : ℕ} → CanPass input piece n → input.frames.stack.items ≢ [] → n ≤ length (unread_of input)
can_inside {input} {piece} {n} can some = at input.frames.stack.items refl
  where
    at : (frames : List Frame) → input.frames.stack.items ≡ frames → n ≤ length (unread_of input)
    at [] none = absurd (some none)
    at (first ∷ others) is =
        subst (λ (frames : List Frame). n ≤ length (unread input.store.bytes frames)) (sym is)
        (inside_last input.store.bytes first others n (subst (FramesIn (length input.store.bytes)) is input.framed) (λ before frame last. can.of_body before frame (is ∙ last)))

-- they are some of the next bytes
pub can_few : {input : Input} {piece : List ℕ} {n : ℕ} → CanPass input piece n → n ≤ length (next_bytes input piece)
can_few {input} {piece} {n} can = at input.frames.stack.items refl
  where
    at : (frames : List Frame) → input.frames.stack.items ≡ frames → n ≤ length (next_bytes input piece)
    at [] none = let all = can.of_piece none in omega (arith, all, length-next (position_of input) piece)
    at (first ∷ others) is = omega (arith, (can_inside can (λ none. let bad : first ∷ others ≡ [] = sym is ∙ none in cc)), length-next (position_of input) piece)

-- the first of them, in the store
pub taken_inside : (stored : List ℕ) (before : List Frame) (frame : Frame) (following : List Placed) (n : ℕ) → IsFrame (length stored) frame → frame.next + n ≤ frame.end →
    sublist stored frame.next (frame.next + n) ≡ bytes_of (take n (unread stored (before ++ frame ∷ []) ++ following))
taken_inside stored before frame following n in_store few = grind (arith, take-take, bytes_of-all_at, take-map, take-append-le, length-all_at, length-sublist, append_assoc, unread-push)

-- the first byte of the innermost of some bodies
pub following_in_body : (stored : List ℕ) (frames : List Frame) → FramesIn (length stored) frames → (d : Frame) → 0 < length frames → (rest : List ℕ) × (bytes_of (unread stored frames) ≡ get_or stored (get_or frames (length frames - 1) d).next 0 ∷ rest)
following_in_body stored [] framed d some = absurd (omega (arith, some))
following_in_body stored (frame ∷ frames) framed d some = at frames (All-head (IsFrame (length stored)) frame frames framed) (following_in_body stored frames (All-tail (IsFrame (length stored)) frame frames framed) d)
  where
    at : (frames : List Frame) → IsFrame (length stored) frame → (0 < length frames → (rest : List ℕ) × (bytes_of (unread stored frames) ≡ get_or stored (get_or frames (length frames - 1) d).next 0 ∷ rest)) →
        (rest : List ℕ) × (bytes_of (unread stored (frame ∷ frames)) ≡ get_or stored (get_or (frame ∷ frames) (suc (length frames) - 1) d).next 0 ∷ rest)
    at [] in_store ih =
        let one_more : frame.end - frame.next ≡ suc (frame.end - frame.next - 1) = omega (arith, in_store.0) in (
          take (frame.end - frame.next - 1) (drop (frame.next + 1) stored),
          bytes_of-all_at frame.place (sublist stored frame.next frame.end) ∙ ap₂ (λ (n : ℕ) (bs : List ℕ). take n bs) one_more (drop_more stored frame.next 0 (omega (arith, in_store.0, in_store.1))),
        )
    at (second ∷ others) in_store ih =
        let (rest, is) = ih (omega arith) in
        let outer = bytes_of (frame_bytes stored frame) in
        let last : suc (length others) ≡ suc (suc (length others)) - 1 = omega arith in
        let same : suc (length others) - 1 ≡ length others = omega arith in (
          rest ++ outer,
          bytes_of-append (unread stored (second ∷ others)) (frame_bytes stored frame) ∙ ap (λ (bs : List ℕ). bs ++ outer) is
              ∙ ap (λ (i : ℕ). get_or stored (get_or (second ∷ others) i d).next 0 ∷ (rest ++ outer)) same
              ∙ ap (λ (i : ℕ). get_or stored (get_or (frame ∷ second ∷ others) i d).next 0 ∷ (rest ++ outer)) last,
        )

-- The next slice is of the piece, or of the innermost body.

pub piece_next : {input : Input} {piece : List ℕ} → Reads input piece → input.frames.stack.items ≡ [] → input.at < length piece → IsNextText input piece input.fed 1 (drop input.at piece) false
piece_next {input} {piece} reads none less = grind (arith, length-drop, append-nil, placed_by_step-one, length-append)

pub body_next : {input : Input} {piece text : List ℕ} {place : ℕ} {ended : Bool} → Reads input piece → (inner : Innermost input.store.bytes input.frames.stack.items text place) → (ended ≡ true → IsOver (bytes_of (unread input.store.bytes inner.before) ++ drop input.at piece)) → IsNextText input piece place 0 text ended
body_next {input} {piece} {text} {place} reads inner over =
    let stored = input.store.bytes in
    let frame = inner.frame in
    let in_store = last-frame (length stored) input.frames.stack.items inner.before frame inner.last input.framed in
    let size = ap length inner.text_is ∙ length-sublist stored frame.next frame.end (omega (arith, in_store.0)) in_store.1 in
    let outer = unread stored inner.before in
    let following = placed_from input.fed (drop input.at piece) in
    let front : unread_of input ≡ placed_by_step place 0 text ++ outer =
    ap (unread stored) inner.last ∙ unread-push stored inner.before frame ∙ ap₂ (λ (m : ℕ) (bs : List ℕ). all_at m bs ++ outer) (sym inner.place_is) (sym inner.text_is) ∙ ap (λ (xs : List Placed). xs ++ outer) (sym (placed_by_step-none place text)) in
    record {
      some = omega (arith, in_store.0, size);
      more = outer ++ following;
      is = ap (λ (xs : List Placed). xs ++ following) front ∙ append_assoc (placed_by_step place 0 text) outer following;
      passes = record {
        reads = reads;
        of_piece = λ none. absurd (omega (arith, ap (λ (frames : List Frame). length frames) (sym none ∙ inner.last), length-append inner.before (frame ∷ [])));
        of_body = λ before last is.
            let same = (same_from_push before inner.before last frame (sym is ∙ inner.last)).1 in
            omega (arith, in_store.0, size, ap (λ (f : Frame). f.next) same, ap (λ (f : Frame). f.end) same);
      };
      over = λ ended. subst IsOver (sym (bytes_of-append outer following ∙ ap (λ (bs : List ℕ). bytes_of outer ++ bs) (bytes_of-placed input.fed (drop input.at piece)))) (over ended);
    }

-- the place of a byte of a slice
pub place_at-placed_by_step : (place step : ℕ) (bs : List ℕ) (i : ℕ) → i < length bs → place_at (placed_by_step place step bs) i ≡ place + step * i
unfolding placed_by_step
place_at-placed_by_step place step [] i less = absurd (omega (arith, less))
place_at-placed_by_step place step (b ∷ bs) zero less = grind arith
place_at-placed_by_step place step (b ∷ bs) (suc i) less = place_at-placed_by_step (place + step) step bs i (omega (arith, less)) ∙ grind arith

-- no bytes of bodies are left, nor of the piece
pub none_left : (input : Input) (piece : List ℕ) → input.frames.stack.items ≡ [] → length piece ≤ input.at → next_bytes input piece ≡ []
none_left input piece none all =
    nil_from_length (next_bytes input piece) (omega (arith, all, length-next (position_of input) piece, ap (λ (frames : List Frame). length (unread input.store.bytes frames)) none))

-- The open body has grown, or memory was lacking and it is unchanged.
pub grown : {E : Type 0} (input : Input) (new : StoreState) (more : List ℕ) (r : Result (Unit {0}) E) → OnOk r (new ≡ store_grown input.store more) → OnErr r (new ≡ input.store) → input.store.stored + length input.store.body + length more ≤ store_limit →
    FramesIn (length new.bytes) input.frames.stack.items × (input.turns + length (unread new.bytes input.frames.stack.items) ≡ input.fed + input.charged) × (new.stored + length new.body ≤ store_limit) × (length new.bytes ≤ new.stored + length new.body + input.charged) × (new.promise.charged ≤ input.frames.stack.capacity)
grown input new more r h k e = grind (arith, length-append, unread-store_grown, frames-store)
