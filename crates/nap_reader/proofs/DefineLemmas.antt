use Rattle.nap_reader.proofs.Common.{AfterEscape, All, All-map, ArePending, Bool, Breaks, BreaksHere, CanAdvance, CanPass, CannotShow, Continues, Entry, Fault, Ghosts, Goes, Input, IsLive, IsNextByte, IsNextText, IsSome, LacksFrom, LacksOwn, LeadsOn, LeadsThrough, List, Memory, Moves, None, OpenBody, Option, Outcome, Passes, Placed, Reaches, Reader, ReadingState, Reads, ReadsTo, Refusal, RunAt, Some, Steps, Stops, StopsByte, Store, StoreState, StoresBody, Works, [], after_body, after_charge, all_at, ap, append-nil, arith, at_byte, body_front, bytes_of, cause_of, drop, drop-append-le, ends_body, false, get_or, inl, inr, is_of_body, kept_list, length, length-append, length-drop, length-map, length-take-le, lt-ltb, memory, nat_tests, ne_eqb, next_bytes, past, pending_escape, place_at, placed_at, placed_by_step, position_of, prefix_len, prefix_len-drop_yes, prefix_len-le-length, prefix_len_passes, reading_state_by, refl, refusal, shown_front, store_bound, store_grown, store_limit, store_shown, stream, stream_front, subst, sym, take, take-append-le, take-map, true, ℕ, ◌*◌, ◌++◌, ◌+◌, ◌-◌, ◌<◌, ◌∙◌, ◌∷◌, ◌≡◌, ◌≢◌, ◌≤◌, ◌⊎◌}
use Rattle.nap_reader.proofs.Base.{AreAdded, IsPlain, as_it_was, body_bound, body_grows, body_over, body_refused, body_shows, breaks_here, by_itself, byte-placed_by_step, bytes_of-placed_by_step, can_few, can_less, can_next, cannot_stops, conveys_nothing, escape_steps, lacks, leads_shown, length-all_at, length-placed_by_step, no_some, pending_body, plain_added, plain_full, prefix_all, space_for, state_with_body, stops_own}
use Rattle.nap_codes.specs.declared.code.Step.TheVariants.{More}
use Rattle.nap_reader.specs.declared.machine.Machine.{Machine}
use Rattle.nap_reader.specs.Bodies as bodies
use Rattle.nap_reader.specs.Stream as model
use Rattle.nap_reader.proofs.FurtherLemmas.{counts_moved, goes_by, next_moved, overcharged, own_is, reads_at, state_moved, stores_moves}
use Rattle.nap_reader.proofs.TakingLemmas.{state_is}
use Rattle.nap_reader.proofs.PieceLemmas.{reaches_called}

-- Bytes of a body that is being defined.

plain_is : (byte : ℕ) → is_of_body byte ≡ true → IsPlain byte
plain_is byte is = record { low = grind (arith, nat_tests, is); other = grind (arith, nat_tests, is) }

-- the first bytes of a slice, up to those that aren't plain
pub plain_slice : {input : Input} {piece text : List ℕ} {first step : ℕ} {ended : Bool} → IsNextText input piece first step text ended → (n : ℕ) → n ≤ prefix_len is_of_body text →
    All IsPlain (bytes_of (take n (next_bytes input piece))) × (length (take n (next_bytes input piece)) ≡ n)
plain_slice {input} {piece} {text} {first} {step} next n few =
    let within : n ≤ length text = omega (arith, few, prefix_len-le-length is_of_body text) in
    let size = length-take-le n text within in
    let slice = placed_by_step first step text in
    let is : bytes_of (take n (next_bytes input piece)) ≡ take n text =
    ap (λ (xs : List Placed). bytes_of (take n xs)) next.is ∙ ap bytes_of (take-append-le n slice next.more (omega (arith, within, length-placed_by_step first step text)))
    ∙ sym (take-map (λ (x : Placed). x.byte) n slice) ∙ ap (take n) (bytes_of-placed_by_step first step text) in (
      subst (All IsPlain) (sym is) (prefix_all IsPlain is_of_body text n plain_is few),
      sym (length-map (take n (next_bytes input piece)) _) ∙ ap length is ∙ size,
    )

-- they can be passed
pub slice_passes : {input : Input} {piece text : List ℕ} {first step n : ℕ} {ended : Bool} → IsNextText input piece first step text ended → n ≤ prefix_len is_of_body text → CanPass input piece n
slice_passes {text = text} {n = n} next few = can_less n (omega (arith, few, prefix_len-le-length is_of_body text)) next.passes

-- then another byte comes, if the slice has one
pub fill_passes : {input mid : Input} {piece text : List ℕ} {first step space : ℕ} {ended : Bool} {store : StoreState} {opened : Option OpenBody} → Reads input piece → IsNextText input piece first step text ended → space < length text → Moves input mid space [] store opened → CanAdvance mid 1
fill_passes {input} {piece = piece} {space = space} reads next less moved =
    let few = can_few next.passes in
    (piece, can_next (counts_moved moved reads (omega (arith, less, few))).reads (omega (arith, less, few, ap (λ (xs : List Placed). length xs) (next_moved moved piece), length-drop space (next_bytes input piece))))

-- Bytes after an open body.
module _ {S : Type 0} {g : Ghosts S} {t : S} {h : ReadingState} {b : OpenBody} (opened : h.open_body ≡ Some b) where
  -- the next byte, or the ESC before it, is refused
  pub body_stops : {x : Placed} {fault : Fault} {place : ℕ} (i : ℕ) → cause_of fault ≡ stream →
      ((more : List Placed) → (body_front (space_for h) (bytes_of (pending_escape b.escape) ++ x.byte ∷ bytes_of more) ≡ bodies.refused fault i) × (place_at (pending_escape b.escape ++ x ∷ more) i ≡ place)) → StopsByte g t [] h x t (refusal fault place)
  body_stops {x} {fault} {place} i own refuses =
      stops_own g t h x t (refusal fault place) own (λ s o pending k. rw (← (refuses pending).1) (body_refused opened k fault i (refuses pending).0))

  -- memory is lacking for the next byte
  pub body_lacks : {x : Placed} {added : List Placed} {escape : Option ℕ} → AreAdded (space_for h) b.escape (x ∷ []) added escape → StopsByte g t [] h x t (refusal Memory x.place)
  body_lacks {x} adds = lacks g t h x _ [] (inr (λ none. absurd (no_some (sym opened ∙ none)))) (inr (refl, inr (b, opened))) (λ known s o pending k. body_grows opened k adds)

  -- the bytes are added
  abbrev body_leads : {xs added : List Placed} {escape : Option ℕ} → AreAdded (space_for h) b.escape xs added escape → 0 < length xs → LeadsThrough g t h [] xs
  body_leads {xs} {added} {escape} adds some = record {
    sink = t;
    holding = state_with_body h b escape (h.body ++ bytes_of added);
    left = refl;
    run = λ n all before. before;
    passes = λ s o pending k. body_grows opened k adds;
    none = λ none. absurd (omega (arith, some, ap length none));
  }

-- a byte that ends a body breaks once the body is bound
breaks_after_body : {S : Type 0} {g : Ghosts S} {t u : S} {h h' : ReadingState} {b : OpenBody} {x : Placed} {r : Refusal} → h.open_body ≡ Some b → h'.machine.left ≡ h.machine.left → ((known : List Entry) → Passes kept_list known h (x ∷ []) known h' (x ∷ [])) → BreaksHere g t [] h' x u r → Breaks g t [] h x u r
breaks_after_body {g = g} {t = t} {h = h} {h' = h'} {b = b} {x = x} {r = r} opened left passes breaks =
    at_byte (inr (λ none. absurd (no_some (sym opened ∙ none)))) (record {
      place = breaks.place;
      adds = breaks.adds;
      after = breaks.after;
      came = breaks.came;
      passes = λ known s o pending k. breaks.passes known s o pending (passes known s o pending k);
      part = breaks.part;
      why = by breaks.why;
    })
  where
    by : LacksOwn h' x breaks.after breaks.came ⊎ ((breaks.came ≡ []) × (breaks.adds ≢ []) × (cause_of r.fault ≡ memory → g.wants t breaks.adds)) → LacksOwn h x breaks.after breaks.came ⊎ ((breaks.came ≡ []) × (breaks.adds ≢ []) × (cause_of r.fault ≡ memory → g.wants t breaks.adds))
    by (inl (inl less)) = inl (inl (omega (arith, less, left)))
    by (inl (inr (none, grows))) = inl (inr (none, inr (b, opened)))
    by (inr adds) = inr adds

-- Bytes of a body that has space for them, and another byte for which it has none.
bytes_fill : {S : Type 0} (g : Ghosts S) (t : S) (h : ReadingState) {name : ℕ} {show : Bool} → h.open_body ≡ Some (record { name = name; show = show; escape = None }) → (xs : List Placed) (x : Placed) → All IsPlain (bytes_of xs) → IsPlain x.byte →
    h.machine.stored + length h.body + length xs ≡ store_limit → (c : LeadsThrough g t h [] xs) × StopsByte g c.sink [] c.holding x t (refusal Store x.place)
bytes_fill g t h opened [] x plain last full = (conveys_nothing g t h, body_stops opened 0 refl (λ more. (plain_full _ x.byte (bytes_of more) last (omega (arith, full)), refl)))
bytes_fill g t h {name} {show} opened (y ∷ ys) x plain last full =
    let body : OpenBody = record { name = name; show = show; escape = None } in
    let size = length-append h.body (bytes_of (y ∷ ys)) in (
      body_leads opened (plain_added _ (y ∷ ys) plain (omega (arith, full))) (omega arith),
      body_stops {b = body} refl 0 refl (λ more. (plain_full _ x.byte (bytes_of more) last (omega (arith, full, size, length-map (y ∷ ys) (λ (z : Placed). z.byte))), refl)),
    )

module _ {S : Type 0} {g : Ghosts S} (m : Machine S g) {input : Input} {piece : List ℕ} where
  -- the next bytes are added to the open body
  pub body_goes : {b : OpenBody} {xs added : List Placed} {escape : Option ℕ} {after : Input} {n : ℕ} → input.body ≡ Some b → AreAdded (store_limit - input.store.stored - length input.store.body) b.escape xs added escape → CanPass input piece n → take n (next_bytes input piece) ≡ xs →
      Moves input after n [] (store_grown input.store (bytes_of added)) (Some (record { name = b.name; show = b.show; escape = escape })) → IsLive m → 0 < length xs → Goes piece n m input m after
  body_goes opened adds can is moved live some =
      goes_by moved can.reads (can_few can) (record { live = live; clear = λ clear. clear; spares = λ spared. spared })
      (rw (is, state_moved moved m {left = input.budget - input.charged} (omega (arith, moved.budget, moved.charged))) (record { conveys = body_leads opened adds some; acted = as_it_was refl refl }))

  -- the next bytes are a slice, and the body has no space for the byte with this index
  pub body_fills : {name : ℕ} {show : Bool} {first step : ℕ} {text : List ℕ} {ended : Bool} → input.body ≡ Some (record { name = name; show = show; escape = None }) → IsNextText input piece first step text ended → (space : ℕ) → space < prefix_len is_of_body text →
      input.store.stored + length input.store.body + space ≡ store_limit → Stops g m.sink (reading_state_by m input) (next_bytes input piece) space m.sink (refusal Store (first + step * space))
  body_fills {first = first} {step} {text} opened next space less full =
      let few : space < length text = omega (arith, less, prefix_len-le-length is_of_body text) in
      let there = ap (drop space) next.is ∙ drop-append-le space (placed_by_step first step text) next.more (omega (arith, few, length-placed_by_step first step text)) ∙ ap (λ (xs : List Placed). xs ++ next.more) (byte-placed_by_step first step text space few) in
      let plain = plain_slice next space (omega (arith, less)) in
      let fill = bytes_fill g m.sink (reading_state_by m input) opened (take space (next_bytes input piece)) _ plain.0 (plain_is (get_or text space 0) (prefix_len_passes is_of_body text space 0 less)) (omega (arith, full, plain.1)) in
      record { byte = _; following = _; is = there; owed = []; leads = fill.0; stops = fill.1 }

-- the open body is unchanged
pub adds_none : {old new : Input} {n : ℕ} {opened : Option OpenBody} → Moves old new n [] old.store opened → Moves old new n [] (store_grown old.store []) opened
adds_none {old} moved = rw (append-nil old.store.bytes, append-nil old.store.body) moved

-- the next byte is the first of the slice
pub next_byte : {input : Input} {piece : List ℕ} {first step byte : ℕ} {text : List ℕ} {ended : Bool} → Reads input piece → IsNextText input piece first step text ended → byte ≡ get_or text 0 0 → IsNextByte input piece byte first
unfolding placed_by_step
next_byte {input} {piece} {first} {step} {byte} {text} reads next is =
    by text is next.some (next.more, next.is)
  where
    by : (bytes : List ℕ) → byte ≡ get_or bytes 0 0 → 0 < length bytes → (more : List Placed) × (next_bytes input piece ≡ placed_by_step first step bytes ++ more) → IsNextByte input piece byte first
    by [] is some parts = absurd (omega (arith, some))
    by (b ∷ bs) is some parts = record { reads = reads; rest = placed_by_step (first + step) step bs ++ parts.0; is = rw is parts.1 }

-- it isn't plain if no byte of the slice is
pub some_plain : {input : Input} {piece : List ℕ} {first step byte place : ℕ} {text : List ℕ} {ended : Bool} → Reads input piece → IsNextText input piece first step text ended → IsNextByte input piece byte place → IsPlain byte → 0 < prefix_len is_of_body text
some_plain {byte = byte} {text = text} reads next one plain =
    let same : get_or text 0 0 ≡ byte = ap (λ (xs : List Placed). get_or (bytes_of xs) 0 0) (sym (next_byte reads next refl).is ∙ one.is) in
    let is : is_of_body (get_or text 0 0) ≡ true = rw (same, ne_eqb byte 27 plain.other, lt-ltb byte 128 plain.low) refl in
    omega (arith, prefix_len-drop_yes is_of_body text 0 0 next.some is)

-- an ESC is pending
pub after_escape : {input : Input} {b : OpenBody} {byte : ℕ} {ending : Bool} → input.body ≡ Some b → IsSome b.escape → ends_body byte ≡ ending → AfterEscape input b byte ending
after_escape {input} {b} {byte} {ending} opened some ends = search (arith) steps 100000

-- The effect of the end of a body.

-- The byte ends the open body, with the pending ESC.
module _ {S : Type 0} {g : Ghosts S} (m : Machine S g) {input : Input} {piece : List ℕ} {b : OpenBody} {byte place : ℕ} (ending : AfterEscape input b byte true) (next : IsNextByte input piece byte place) where
  abbrev h : ReadingState
  h = reading_state_by m input

  abbrev ender : Placed
  ender = placed_at byte place

  abbrev bytes : List ℕ
  bytes = input.store.body ++ 27 ∷ byte ∷ []

  next_is : bytes_of (next_bytes input piece) ≡ byte ∷ bytes_of next.rest
  next_is = ap bytes_of next.is

  -- the reading state once the body is bound, whose end is half read
  abbrev bound : ReadingState
  bound = record h { machine = after_body h.machine b.name h.body; half = 27 ∷ []; open_run = None; run = []; open_body = None; body = [] }

  bound_past : {T : Type 0} {g' : Ghosts T} {s t : T} {o : Outcome} {x : Placed} {pending : List Placed} {retained : ReadingState} → b.show ≡ false → (m.lexer.half ≡ [] → retained ≡ bound) → ends_body x.byte ≡ true → Continues g' s o t h (x ∷ pending) → Continues g' s o t retained (x ∷ pending)
  bound_past hidden holds ends k = let opened = rw hidden at ending.opened in rw (holds (pending_body opened k).half) (body_bound k ends opened)

  -- The body is bound, and no run is open.
  pub bound_goes : {m' : Machine S g} {after : Input} → b.show ≡ false → StoresBody input after (store_bound input.store b.name) None → Works m m' → (m'.work ≡ m.work) × (m'.sink ≡ m.sink) × (m'.open_run ≡ None) → (m.lexer.half ≡ [] → Steps m.lexer 27 More m'.lexer) → Goes piece 0 m input m' after
  bound_goes {m'} {after} hidden sets works (work, sink, closed_run) steps =
      let moved = stores_moves sets refl in
      let retained = state_moved moved m' {left = input.budget - input.charged} (omega (arith, moved.budget, moved.charged)) in
      let left : (reading_state_by m' after).machine.left ≡ h.machine.left = ap (λ (h : ReadingState). h.machine.left) retained in
      let ends = λ (x : Placed) (bs : List ℕ) (is : bytes_of (next_bytes input piece) ≡ x.byte ∷ bs). ap (λ (zs : List ℕ). ends_body (get_or zs 0 0)) (sym is ∙ next_is) ∙ ending.ends in
      let holds : m.lexer.half ≡ [] → reading_state_by m' after ≡ bound =
      λ rested. retained ∙ state_is (record h { machine = after_body h.machine b.name h.body; open_body = None; body = [] }) m' m.work (record { sets = m.lexer.sets; half = 27 ∷ [] }) None work (escape_steps m.lexer More m'.lexer rested (steps rested)) closed_run in
      goes_by moved next.reads (omega arith) works
      (subst (λ (t : S). LeadsOn g m.sink h t (reading_state_by m' after) [] (bytes_of (next_bytes input piece))) (sym sink) (record {
        conveys = conveys_nothing g m.sink h;
        acted = record {
          passes = λ x bs is s o pending. bound_past hidden holds (ends x bs is);
          stops = λ x bs is v r stops. record {
            own = λ own s o pending k.
                let there = stops.own own s o pending (bound_past hidden holds (ends x bs is) k) in
                (there.0, there.1, there.2 ∙ left);
            broke = λ broke. breaks_after_body ending.opened left (λ known s o pending. bound_past hidden holds (ends x bs is)) (breaks_here closed_run (stops.broke broke));
          };
          left = left;
          run = λ n run. subst (RunAt n) (sym closed_run) tt;
          none = λ empty. let bad : byte ∷ bytes_of next.rest ≡ [] = sym next_is ∙ empty in cc;
        };
      }))

  module _ (shown : b.show ≡ true) where
    shows : (s : S) (o : Outcome) (pending : List Placed) (k : Continues g s o m.sink h (ender ∷ pending)) → stream_front h.machine (k.rest ++ ender ∷ pending) ≡ shown_front (after_body h.machine b.name h.body) place bytes pending
    shows s o pending k = body_shows k ending.ends (rw shown at ending.opened)

    abbrev presented : ReadingState
    presented = record h { machine = after_charge (after_body h.machine b.name h.body) (length bytes); open_run = None; run = []; open_body = None; body = [] }

    -- The end of the body leads to its bytes.
    shown_reaches : {old : Reader S g} → ReadsTo old piece m input → length bytes ≤ input.budget - input.charged → {u : S} → u ≡ m.sink → (h' : ReadingState) → h' ≡ presented → Reaches old piece (past (position_of input) 1 (all_at place bytes)) u h'
    shown_reaches by few sink h' retained =
        let m1 : model.Machine = after_charge (after_body h.machine b.name h.body) (length bytes) in
        let passes : Passes g m.sink h (ender ∷ []) m.sink h' (all_at place bytes) =
        λ s o pending k.
        leads_shown k (after_body h.machine b.name h.body) place bytes pending (shows s o pending k) few h' (ap (λ (h : ReadingState). h.machine) retained) (subst (ArePending []) (sym retained) (body_over ending.opened k m1 refl)) in
        rw sink (reaches_called by.reaches (all_at place bytes) next.is passes (omega (arith, few, ap (λ (h : ReadingState). h.machine.left) retained, length-all_at place bytes))
        (All-map (λ (y : Placed). y.place ≡ place) (λ (b : ℕ). placed_at b place) bytes (λ i d less. refl)) (ap (λ (h : ReadingState). h.open_run) retained))

    -- The body is presented, and no run is open.
    pub shown_goes : {m' : Machine S g} {after : Input} → Moves input after 1 (all_at place bytes) (store_shown input.store b.name byte) None → Works m m' → (m'.work ≡ m.work) × (m'.sink ≡ m.sink) × (m'.open_run ≡ None) → m'.lexer ≡ m.lexer → Goes piece 0 m input m' after
    shown_goes {m'} {after} moved works (work, sink, closed_run) lexer =
        let some : 1 ≤ length (next_bytes input piece) = omega (arith, ap (λ (xs : List Placed). length xs) next.is) in
        let counts = counts_moved moved next.reads some in
        let few : length bytes ≤ input.budget - input.charged = omega (arith, after.within, moved.budget, moved.charged, length-all_at place bytes) in
        let retained : reading_state_by m' after ≡ presented =
        state_moved moved m' (omega (arith, moved.budget, moved.charged, length-all_at place bytes))
        ∙ state_is (record h { machine = after_charge (after_body h.machine b.name h.body) (length bytes); open_body = None; body = [] }) m' m.work m.lexer None work lexer closed_run in
        record {
          counts = record { reads = counts.reads; budget = counts.budget; promise = counts.promise; fed = counts.fed; turns = omega (arith, counts.turns) };
          on = λ old by. reads_at by moved some works (shown_reaches by few sink (reading_state_by m' after) retained);
        }

    -- The body can't be presented.
    pub shown_stops : {mid after : Input} {fault : Fault} → Moves input mid 1 [] input.store input.body → CannotShow mid after bytes fault → StopsByte g m.sink [] h ender m.sink (refusal fault place)
    shown_stops {mid} adv cannot =
        let m' : model.Machine = after_body h.machine b.name h.body in
        cannot_stops m' bytes (record h { machine = after_charge m' (length bytes); open_run = None; run = []; open_body = None; body = [] }) (omega (arith, adv.budget, adv.charged)) refl
        (λ none. absurd (no_some (sym ending.opened ∙ none))) refl
        (λ rest pending pends. let k = by_itself rest h (ender ∷ pending) pends in (body_shows k ending.ends (rw shown at ending.opened), body_over ending.opened k (after_charge m' (length bytes)) refl)) cannot.reason

    pub shown_lacks : {mid after : Input} {fault : Fault} → Moves input mid 1 [] input.store input.body → CannotShow mid after bytes fault → LacksFrom piece m input fault
    shown_lacks {mid} adv cannot short old by held =
        let few : length bytes ≤ mid.budget - mid.charged = elim cannot.reason [
          | inl budget ↦ absurd (own_is budget.0 short)
          | inr none ↦ none.2
        ] in
        overcharged by (shown_reaches by (omega (arith, few, adv.budget, adv.charged)) refl presented refl) (omega (arith, few, input.within, adv.budget, adv.charged)) (rw adv.promise at (cannot.lacks short)) mid.few held
