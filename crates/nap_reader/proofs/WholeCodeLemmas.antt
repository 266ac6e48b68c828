use Rattle.nap_reader.proofs.Common.{Bool, Call, Code, CodeOutcome, CodeSets, Codes, Define, DrawFault, Entry, FaultMatchesSink, Ghosts, IsLive, IsNextOf, Kind, LeadsOn, Leaves, LexerState, List, None, Nothing, Placed, ReadingState, Request, Some, Stop, Takes, TakesBy, [], add-zero, ap, append-nil, append_assoc, arith, bytes_of, code_length, code_rule, code_stays, code_taken, cond, draw_fault, drop, drop-append-le, drop_more, earlier_unfinished, false, get_or, is_fill, kind_of, length, length-append, length-drop, length-map, length-take-le, next_of, place_at, placed_at, prefix_len, prefix_len-le-length, refl, refusal, sets_after, slice_get, subst, suc, sym, take, take-append-add, take-append-drop, take-append-le, take-append_seam, take-map, take_more, true, with_machine, ℕ, ◌++◌, ◌+◌, ◌-◌, ◌<◌, ◌∙◌, ◌∷◌, ◌≡◌, ◌≤◌}
use Rattle.nap_reader.proofs.Base.{Fails, bytes_of-append, TookMore, WantsMore, escape_unfinished, fails_spare, fill_front, first_byte, front_kind_made, leads_nowhere, leads_past, leads_then, stops_now}
use Rattle.nap_codes.specs.declared.next_code.NextCode.{NextCode}
use Rattle.nap_codes.specs.Front as codes
use Rattle.nap_reader.specs.declared.machine.Machine.{Machine}
use Rattle.nap_reader.proofs.CodesLemmas.{EndsCode, IsRuled, acts, binds, code_calls, drawn_at, drawn_by, ends, half_leads, leads_by, lexes_alone, Lexes, over, rested, ruled_breaks, ruled_leads}
use Rattle.nap_reader.proofs.TakingLemmas.{Drew, LeftBy, kept_as, left_is, place_at-drop, takes_after, takes_none, takes_then, works_on, works_still}

-- Codes of several bytes that are all among the next bytes.

-- bytes of an incomplete code are half-read one after another
halves_lead : {S : Type 0} {g : Ghosts S} {t : S} (h : ReadingState) (xs : List Placed) (next : List ℕ) → h.open_body ≡ None → h.open_run ≡ None →
    ((us vs : List ℕ) → bytes_of xs ≡ us ++ vs → codes.front h.machine.sets (h.half ++ us) ≡ codes.unfinished) → LeadsOn g t h t (record h { half = h.half ++ bytes_of xs }) xs next
halves_lead {g = g} {t = t} h [] next between closed waits =
    leads_nowhere next refl (ap (λ (half : List ℕ). let state : ReadingState = record h { half = half } in state) (append-nil h.half))
halves_lead {g = g} {t = t} h (x ∷ xs) next between closed waits =
    let h' : ReadingState = record h { half = h.half ++ x.byte ∷ [] } in
    let all = append_assoc h.half (x.byte ∷ []) in
    let first : LeadsOn g t h t h' (x ∷ []) (bytes_of xs ++ next) = half_leads x (bytes_of xs ++ next) refl refl between closed (waits (x.byte ∷ []) (bytes_of xs) refl) in
    let then = halves_lead h' xs next between closed (λ us vs is. ap (codes.front h.machine.sets) (all us) ∙ waits (x.byte ∷ us) vs (ap (λ (bs : List ℕ). x.byte ∷ bs) is)) in
    subst (λ (half : List ℕ). LeadsOn g t h t (record h { half = half }) (x ∷ xs) next) (all (bytes_of xs))
    (leads_then first t (record h' { half = h'.half ++ bytes_of xs }) xs next refl then)

-- No run is open, and a code that may be half read is complete with the next bytes, with `n` of them before its last one.
pub record BeginsWith {S : Type 0} {g : Ghosts S} (old : Machine S g) (xs : List Placed) (n : ℕ) (c : Code) (after : CodeSets) : Type 0 where
  pub closed : old.open_run ≡ None
  pub whole : codes.front old.lexer.sets (old.lexer.half ++ bytes_of xs) ≡ codes.complete c (length old.lexer.half + suc n) after

module _ {S : Type 0} {g : Ghosts S} {old : Machine S g} {xs : List Placed} {n : ℕ} {c : Code} {after : CodeSets} (k : BeginsWith old xs n c after) where
  few : n < length xs
  few = omega (arith, (code_length old.lexer.sets (old.lexer.half ++ bytes_of xs) c (length old.lexer.half + suc n) after k.whole).1, length-append old.lexer.half (bytes_of xs), length-map xs (λ (x : Placed). x.byte))

  -- the last byte of the code, and those after it
  abbrev last : Placed
  last = get_or xs n (placed_at 0 0)

  abbrev others : List Placed
  others = drop (n + 1) xs

  last_is : drop n xs ≡ last ∷ others
  last_is = drop_more xs n (placed_at 0 0) few

  -- the place of the last byte
  last_placed : last.place ≡ place_at xs n
  last_placed = sym (ap (λ (ys : List Placed). place_at ys 0) last_is) ∙ place_at-drop xs n 0 ∙ ap (place_at xs) (add-zero n)

  abbrev half : List ℕ
  half = old.lexer.half

  -- the bytes before the last one
  abbrev early : List ℕ
  early = bytes_of (take n xs)

  length-early : length early ≡ n
  length-early = length-map (take n xs) (λ (x : Placed). x.byte) ∙ length-take-le n xs (omega (arith, few))

  -- the bytes of the code
  code_bytes : take (length half + suc n) (half ++ bytes_of xs) ≡ (half ++ early) ++ last.byte ∷ []
  code_bytes =
      let one : suc n ≡ n + 1 = omega arith in
      let rest : take (suc n) (bytes_of xs) ≡ early ++ last.byte ∷ [] = take-map (λ (x : Placed). x.byte) (suc n) xs ∙ ap (λ (m : ℕ). bytes_of (take m xs)) one ∙ ap bytes_of (take_more xs n (placed_at 0 0) few) ∙ bytes_of-append (take n xs) (last ∷ []) in
      take-append-add half (bytes_of xs) (suc n) ∙ ap (λ (bs : List ℕ). half ++ bs) rest ∙ sym (append_assoc half early (last.byte ∷ []))

  ends_code : EndsCode old.lexer.sets (half ++ early) old.open_run last.byte c after
  ends_code = grind (arith, length-append, length-early, code_bytes, code_taken)

  -- the bytes before the last one are unfinished
  early_waits : (us vs : List ℕ) → early ≡ us ++ vs → codes.front old.lexer.sets (half ++ us) ≡ codes.unfinished
  early_waits us vs is =
      let all : half ++ bytes_of xs ≡ (half ++ us) ++ (vs ++ bytes_of (drop n xs)) =
      ap (λ (ys : List Placed). half ++ bytes_of ys) (sym (take-append-drop n xs)) ∙ ap (λ (bs : List ℕ). half ++ bs) (bytes_of-append (take n xs) (drop n xs) ∙ ap (λ (bs : List ℕ). bs ++ bytes_of (drop n xs)) is ∙ append_assoc us vs (bytes_of (drop n xs))) ∙ sym (append_assoc half us (vs ++ bytes_of (drop n xs))) in
      let fewer : length (half ++ us) < length half + suc n = omega (arith, ap length is, length-append us vs, length-append half us, length-early) in
      let first : take (length (half ++ us)) (half ++ bytes_of xs) ≡ half ++ us = ap (take (length (half ++ us))) all ∙ take-append_seam (half ++ us) (vs ++ bytes_of (drop n xs)) in
      ap (codes.front old.lexer.sets) (sym first) ∙ earlier_unfinished old.lexer.sets (half ++ bytes_of xs) c (length half + suc n) after (length (half ++ us)) k.whole fewer

  -- the state in which the last byte comes
  abbrev held : ReadingState → ReadingState
  held h = record (with_machine h old) { half = half ++ early }

  early_leads : (h : ReadingState) (following : List Placed) → h.open_body ≡ None → LeadsOn g old.sink (with_machine h old) old.sink (held h) (take n (xs ++ following)) (bytes_of (drop n (xs ++ following)))
  early_leads h following between =
      let next = bytes_of (drop n (xs ++ following)) in
      subst (λ (ys : List Placed). LeadsOn g old.sink (with_machine h old) old.sink (held h) ys next) (sym (take-append-le n xs following (omega (arith, few))))
      (halves_lead {g = g} {t = old.sink} (with_machine h old) (take n xs) next between k.closed early_waits)

  -- What a machine does with the last byte, it does with the code.
  last_takes : {new : Machine S g} {ended : Bool} {request : Request} {count : ℕ} (m : ℕ) → m ≤ 1 → count ≡ n + m → Leaves old new request →
      ((h : ReadingState) (following : List Placed) → h.open_body ≡ None → TakesBy g old.sink (held h) new.sink (with_machine h new) (last ∷ (others ++ following)) m new.refusal request) → Takes old new xs ended count request
  last_takes {new = new} {ended = ended} {request = request} m one total leaves by = subst (λ (i : ℕ). Takes old new xs ended i request) (sym total) record {
    within = omega (arith, few, one);
    leaves = leaves;
    by = λ h following between over.
        let rest : drop n (xs ++ following) ≡ last ∷ (others ++ following) = drop-append-le n xs following (omega (arith, few)) ∙ ap (λ (ys : List Placed). ys ++ following) last_is in
        takes_after (xs ++ following) n (early_leads h following between) new h request m
        (subst (λ (ys : List Placed). TakesBy g old.sink (held h) new.sink (with_machine h new) ys m new.refusal request) (sym rest) (by h following between));
  }

  -- A machine consumes a code that adds nothing.
  pub whole_nothing : {new : Machine S g} {ended : Bool} {count : ℕ} → count ≡ n + 1 → kind_of c ≡ Kind.adds_nothing → LeftBy old new old.work (rested after) → new.sink ≡ old.sink → IsLive new → Takes old new xs ended count Nothing
  whole_nothing total kind left same live =
      last_takes 1 (omega arith) total (works_still left.kept same live) (λ h following between.
      leads_by (bytes_of (others ++ following)) same (left_is left h) (omega arith) refl (λ n all before. before)
      (λ s o pending c'. leads_past c' [] (drawn_at (held h) after old.work) pending (over g old.sink between ends_code c' old.work) (ends g old.sink between ends_code kind c')))

  -- A machine consumes a call of a macro.
  pub whole_call : {new : Machine S g} {ended : Bool} {count name : ℕ} → count ≡ n + 1 → kind_of c ≡ Kind.calls name → LeftBy old new old.work (rested after) → new.sink ≡ old.sink → IsLive new → Takes old new xs ended count (Call name)
  whole_call total kind left same live =
      last_takes 1 (omega arith) total (works_still left.kept same live)
      (λ h following between. (0, refl, code_calls g old.sink between ends_code (others ++ following) refl (leads_nowhere (bytes_of (last ∷ (others ++ following))) refl refl) kind same (left_is left h)))

  -- A machine consumes a code that draws.
  pub whole_ruled : {new : Machine S g} {ended : Bool} {request : Request} {count : ℕ} {entries : List Entry} → count ≡ n + 1 → IsRuled c request → Drew g (code_rule old.work c) old.sink (drawn_by entries new.work) new.sink → LeftBy old new new.work (rested after) → IsLive new → TookMore g → WantsMore g → Takes old new xs ended count request
  whole_ruled total (acts acting kind) drew left live more wants =
      last_takes 1 (omega arith) total (works_on _ left.kept wants drew.took drew.clear live) (λ h following between. ruled_leads g old.sink between ends_code (acts acting kind) (left_is left h) drew more (bytes_of (others ++ following)))
  whole_ruled total (binds name show kind) drew left live more wants =
      last_takes 1 (omega arith) total (works_on _ left.kept wants drew.took drew.clear live)
      (λ h following between. (rw kind at (front_kind_made old.lexer.sets ((half ++ early) ++ last.byte ∷ []) c _ after ends_code.whole), ruled_leads g old.sink between ends_code (binds name show kind) (left_is left h) drew more (bytes_of (others ++ following))))

  -- A machine refuses a code by its rule, or breaks at it.
  pub whole_stops : {new : Machine S g} {ended : Bool} {request : Request} {count : ℕ} {u : S} {fault : DrawFault} → count ≡ n + 0 → IsRuled c request → Fails g (code_rule old.work c) old.sink u fault → FaultMatchesSink g old.sink u (draw_fault fault) → new.refusal ≡ Some (refusal (draw_fault fault) (place_at xs n)) → new.sink ≡ u →
      Takes old new xs ended count Stop
  whole_stops {fault = fault} total ruled fails reported is same =
      let why = refusal (draw_fault fault) last.place in
      let stopped : _ ≡ Some why = is ∙ ap (λ (place : ℕ). Some (refusal (draw_fault fault) place)) (sym last_placed) in
      last_takes 0 (omega arith) total (record { why = why; is = stopped; tells = rw same reported; spares = λ spared. fails_spare fault fails spared.1 })
      (λ h following between. (why, stopped, rw same (stops_now refl (ruled_breaks g old.sink between ends_code ruled fails))))

-- The code that was found.

-- the front is this code, of so many bytes
abbrev pub Found : CodeSets → codes.Front → ℕ → Code → Type 0
Found sets r n c = r ≡ codes.complete c n (sets_after sets r)

pub nothing_found : (sets : CodeSets) (r : codes.Front) (n : ℕ) → NextCode.Nothing n ≡ next_of r → (c : Code) × Found sets r n c × (kind_of c ≡ Kind.adds_nothing)
nothing_found sets codes.unfinished n is = let bad : ⊥ = cc in absurd bad
nothing_found sets (codes.refused fault i) n is = let bad : ⊥ = cc in absurd bad
nothing_found sets (codes.complete Code.Fill m after) n is = (Code.Fill, cc, refl)
nothing_found sets (codes.complete Code.Shifted m after) n is = (Code.Shifted, cc, refl)
nothing_found sets (codes.complete (Code.Designated number set) m after) n is = (Code.Designated number set, cc, refl)
nothing_found sets (codes.complete _ m after) n is = let bad : ⊥ = cc in absurd bad

pub call_found : (sets : CodeSets) (r : codes.Front) (n name : ℕ) → NextCode.Calls n name ≡ next_of r → Found sets r n (Code.Call name)
call_found sets r n name h = grind arith

-- No run is open, and a code is complete with so many of these bytes, after those of it that were half read.
pub record EndsWith {S : Type 0} {g : Ghosts S} (old : Machine S g) (bytes : List ℕ) (count : ℕ) (c : Code) (after : CodeSets) : Type 0 where
  pub closed : old.open_run ≡ None
  pub some : 0 < count
  pub whole : codes.front old.lexer.sets (old.lexer.half ++ bytes) ≡ codes.complete c (length old.lexer.half + count) after

-- The first byte ends the code.
pub ends_first : {S : Type 0} {g : Ghosts S} {old : Machine S g} {bytes : List ℕ} {b : ℕ} {c : Code} {after : CodeSets} → slice_get bytes 0 ≡ Some b → Lexes old b c after → EndsWith old bytes 1 c after
ends_first {old = old} {bytes} {b} {c} {after} first k =
    let (rest, is) = first_byte bytes b first in
    record {
      closed = k.closed;
      some = omega arith;
      whole = rw (is, ← append_assoc old.lexer.half (b ∷ []) rest, code_stays old.lexer.sets (old.lexer.half ++ b ∷ []) rest c _ after k.whole, length-append old.lexer.half (b ∷ [])) refl;
    }

pub begins_one : {S : Type 0} {g : Ghosts S} {old : Machine S g} {x : Placed} {xs : List Placed} {c : Code} {after : CodeSets} → Lexes old x.byte c after → BeginsWith old (x ∷ xs) 0 c after
begins_one {old = old} {x} {xs} {c} {after} k =
    let all : EndsWith old (x.byte ∷ bytes_of xs) 1 c after = ends_first refl k in
    record { closed = all.closed; whole = all.whole }

-- A code that draws was read, which leads from one lexer to another.
pub record Drawing {S : Type 0} {g : Ghosts S} (old : Machine S g) (new : LexerState) (bytes : List ℕ) (count : ℕ) (c : Code) (request : Request) : Type 0 where
  pub after : CodeSets
  pub ends : EndsWith old bytes count c after
  pub ruled : IsRuled c request
  pub left : new ≡ rested after

acts_found : (sets : CodeSets) (r : codes.Front) (n : ℕ) (c : Code) → NextCode.Acts n c ≡ next_of r → Found sets r n c × (kind_of c ≡ Kind.acts c)
acts_found sets r n c h = grind arith

definition_found : (sets : CodeSets) (r : codes.Front) (n name : ℕ) (show : Bool) → NextCode.Defines n name show ≡ next_of r → Found sets r n (Code.DefMacro name show)
definition_found sets r n name show h = grind arith

-- the lexer after a code that was found
pub left_rested : (r : codes.Front) (sets : CodeSets) (new : LexerState) {next : NextCode} → new.half ≡ [] → IsNextOf r sets next new.sets → new ≡ rested (sets_after sets r)
left_rested r sets new half (next, after) = rw (← after, ← half) refl

pub acting : {S : Type 0} {g : Ghosts S} {old : Machine S g} (new : LexerState) {bytes : List ℕ} (r : codes.Front) {n count : ℕ} {c : Code} → (Found old.lexer.sets r n c → EndsWith old bytes count c (sets_after old.lexer.sets r)) → new.half ≡ [] → IsNextOf r old.lexer.sets (NextCode.Acts n c) new.sets → Drawing old new bytes count c Nothing
acting {old = old} new r {n = n} {c = c} ends half next =
    let (found, kind) = acts_found old.lexer.sets r n c next.0 in
    record { after = sets_after old.lexer.sets r; ends = ends found; ruled = acts c kind; left = left_rested r old.lexer.sets new half next }

pub defining : {S : Type 0} {g : Ghosts S} {old : Machine S g} (new : LexerState) {bytes : List ℕ} (r : codes.Front) {n count name : ℕ} {show : Bool} → (Found old.lexer.sets r n (Code.DefMacro name show) → EndsWith old bytes count (Code.DefMacro name show) (sets_after old.lexer.sets r)) → new.half ≡ [] →
    IsNextOf r old.lexer.sets (NextCode.Defines n name show) new.sets → Drawing old new bytes count (Code.DefMacro name show) (Define name show)
defining {old = old} new r {n = n} {name = name} {show = show} ends half next =
    record { after = sets_after old.lexer.sets r; ends = ends (definition_found old.lexer.sets r n name show next.0); ruled = binds name show refl; left = left_rested r old.lexer.sets new half next }

-- the code sets after the code at the front
abbrev pub sets_past : CodeSets → List ℕ → CodeSets
sets_past sets bytes = sets_after sets (codes.front sets bytes)

-- The code was found with no byte of it half read.
pub begins_now : {S : Type 0} {g : Ghosts S} {old : Machine S g} {bytes : List ℕ} {count : ℕ} {c : Code} → old.open_run ≡ None → old.lexer.half ≡ [] → Found old.lexer.sets (codes.front old.lexer.sets bytes) count c → EndsWith old bytes count c (sets_past old.lexer.sets bytes)
begins_now {old = old} {bytes = bytes} {count = count} {c = c} closed rests found = record { closed = closed; some = (code_length old.lexer.sets bytes c count _ found).0; whole = rw rests (found ∙ ap (λ (n : ℕ). codes.complete c n (sets_past old.lexer.sets bytes)) (let e : count ≡ 0 + count = omega arith in e)) }

-- a code that begins with ESC has another byte
long_escape : (sets : CodeSets) (bytes : List ℕ) (c : Code) (n : ℕ) (after : CodeSets) → codes.front sets (27 ∷ bytes) ≡ codes.complete c n after → 1 < n
long_escape sets bytes c n after h = grind (arith, code_length, escape_unfinished, code_taken)

-- The code was found after ESC, which is half read.
pub begins_after_escape : {S : Type 0} {g : Ghosts S} {old : Machine S g} {bytes : List ℕ} {count : ℕ} {c : Code} → old.open_run ≡ None → old.lexer.half ≡ 27 ∷ [] → Found old.lexer.sets (codes.front old.lexer.sets (27 ∷ bytes)) count c →
    EndsWith old bytes (count - 1) c (sets_past old.lexer.sets (27 ∷ bytes))
begins_after_escape {old = old} {bytes = bytes} {count = count} {c = c} closed escaped found = grind (arith, long_escape)

-- A machine consumes controls without effect.
fills_take : {S : Type 0} {g : Ghosts S} (m : Machine S g) (xs : List Placed) {ended : Bool} → m.open_run ≡ None → m.lexer.half ≡ [] → IsLive m → Takes m m xs ended (prefix_len is_fill (bytes_of xs)) Nothing
fills_take {S} {g} m xs {ended} closed rests live = from xs
  where
    left : LeftBy m m m.work (rested m.lexer.sets)
    left = record { before = closed; closed = closed; work_is = refl; lexer_is = ap (λ (half : List ℕ). let lexer : LexerState = record { sets = m.lexer.sets; half = half } in lexer) rests; kept = kept_as refl refl }

    none : (ys : List Placed) → Takes m m ys ended 0 Nothing
    none ys = takes_none (record { before = closed; closed = closed; work_is = refl; lexer_is = refl; kept = kept_as refl refl }) refl live

    at : (x : Placed) (ys : List Placed) (fills : Bool) → is_fill x.byte ≡ fills → Takes m m ys ended (prefix_len is_fill (bytes_of ys)) Nothing → Takes m m (x ∷ ys) ended (cond fills (1 + prefix_len is_fill (bytes_of ys)) 0) Nothing
    at x ys true is later = takes_then (whole_nothing (begins_one (lexes_alone closed rests (fill_front m.lexer.sets x.byte is))) refl refl left refl live) later refl
    at x ys false is later = none (x ∷ ys)

    from : (ys : List Placed) → Takes m m ys ended (prefix_len is_fill (bytes_of ys)) Nothing
    from [] = none []
    from (y ∷ ys) = at y ys (is_fill y.byte) refl (from ys)

-- What a machine does with the bytes that the code was found in.
module _ {S : Type 0} {g : Ghosts S} {old : Machine S g} {bytes : List ℕ} {count : ℕ} {c : Code} {after : CodeSets} (k : EndsWith old bytes count c after) where
  placed : (xs : List Placed) → bytes ≡ bytes_of xs → BeginsWith old xs (count - 1) c after
  placed xs is = let some : count ≡ suc (count - 1) = omega (arith, k.some) in record { closed = k.closed; whole = rw (← is, ← some) k.whole }

  pub found_within : (0 < count) × (count ≤ length bytes)
  found_within = (k.some, omega (arith, (code_length old.lexer.sets (old.lexer.half ++ bytes) c (length old.lexer.half + count) after k.whole).1, length-append old.lexer.half bytes))

  total : count ≡ (count - 1) + 1
  total = omega (arith, k.some)

  -- The code adds nothing.
  pub found_nothing : {new : Machine S g} {ended : Bool} → LeftBy old new old.work (rested after) → new.sink ≡ old.sink → kind_of c ≡ Kind.adds_nothing → IsLive new → Codes old new bytes ended (CodeOutcome.Acted count)
  found_nothing left same kind live = record { within = found_within; closed = left.closed ∙ sym k.closed; by = λ x ys is. whole_nothing (placed (x ∷ ys) is) total kind left same live }

  -- The code has one byte and adds nothing, and controls without effect follow it.
  pub found_fills : {new : Machine S g} {ended : Bool} → count ≡ 1 → LeftBy old new old.work (rested after) → new.sink ≡ old.sink → kind_of c ≡ Kind.adds_nothing → IsLive new → Codes old new bytes ended (CodeOutcome.Acted (1 + prefix_len is_fill (drop 1 bytes)))
  found_fills {new} one left same kind live = record {
    within = (omega arith, omega (arith, found_within.1, one, prefix_len-le-length is_fill (drop 1 bytes), length-drop 1 bytes));
    closed = left.closed ∙ sym k.closed;
    by = λ x ys is.
        takes_then (whole_nothing (placed (x ∷ ys) is) (let e : 1 ≡ (count - 1) + 1 = omega (arith, one) in e) kind left same live) (fills_take new ys left.closed (ap (λ (lexer : LexerState). lexer.half) left.lexer_is) live)
        (ap (λ (bs : List ℕ). 1 + prefix_len is_fill (drop 1 bs)) is);
  }

  -- The code is a call of a macro.
  pub found_call : {new : Machine S g} {ended : Bool} {name : ℕ} → LeftBy old new old.work (rested after) → new.sink ≡ old.sink → kind_of c ≡ Kind.calls name → IsLive new → Codes old new bytes ended (CodeOutcome.Calls count name)
  found_call left same kind live = record {
    within = (found_within.0, found_within.1, rw kind at (front_kind_made old.lexer.sets (old.lexer.half ++ bytes) c _ after k.whole));
    closed = left.closed ∙ sym k.closed;
    by = λ x ys is. whole_call (placed (x ∷ ys) is) total kind left same live;
  }

  -- The code acts.
  pub found_acts : {new : Machine S g} {ended : Bool} {entries : List Entry} → LeftBy old new new.work (rested after) → IsRuled c Nothing → Drew g (code_rule old.work c) old.sink (drawn_by entries new.work) new.sink → IsLive new → TookMore g → WantsMore g → Codes old new bytes ended (CodeOutcome.Acted count)
  found_acts left ruled drew live more wants = record { within = found_within; closed = left.closed ∙ sym k.closed; by = λ x ys is. whole_ruled (placed (x ∷ ys) is) total ruled drew left live more wants }

  -- The code acts, and begins a body.
  pub found_defines : {new : Machine S g} {ended : Bool} {name : ℕ} {show : Bool} {entries : List Entry} → LeftBy old new new.work (rested after) → IsRuled c (Define name show) → Drew g (code_rule old.work c) old.sink (drawn_by entries new.work) new.sink → IsLive new → TookMore g → WantsMore g →
      Codes old new bytes ended (CodeOutcome.Defines count name show)
  found_defines left ruled drew live more wants = record { within = found_within; closed = left.closed ∙ sym k.closed; by = λ x ys is. whole_ruled (placed (x ∷ ys) is) total ruled drew left live more wants }

  -- The code is refused by its rule, or breaks.
  pub found_stops : {new : Machine S g} {ended : Bool} {request : Request} {fault : DrawFault} {index : ℕ} → index ≡ count - 1 → new.open_run ≡ old.open_run → IsRuled c request → Fails g (code_rule old.work c) old.sink new.sink fault → FaultMatchesSink g old.sink new.sink (draw_fault fault) →
      Codes old new bytes ended (CodeOutcome.Stopped index (draw_fault fault) index)
  found_stops is same ruled fails reported = rw is record {
    within = (omega (arith, found_within.1), omega (arith, found_within.0, found_within.1));
    closed = same;
    by = λ x ys front kept refuses. whole_stops (placed (x ∷ ys) front) (omega arith) ruled fails reported refuses.is refuses.sink;
  }

-- The first byte is a code.
module _ {S : Type 0} {g : Ghosts S} {old : Machine S g} {c : Code} {after : CodeSets} {bytes : List ℕ} {b : ℕ} (first : slice_get bytes 0 ≡ Some b) (k : Lexes old b c after) where
  pub alone_nothing : {new : Machine S g} {ended : Bool} → LeftBy old new old.work (rested after) → new.sink ≡ old.sink → kind_of c ≡ Kind.adds_nothing → IsLive new → Codes old new bytes ended (CodeOutcome.Acted 1)
  alone_nothing left same kind live = found_nothing (ends_first first k) left same kind live

  pub alone_acts : {new : Machine S g} {ended : Bool} → LeftBy old new new.work (rested after) → kind_of c ≡ Kind.acts c → {entries : List Entry} → Drew g (code_rule old.work c) old.sink (drawn_by entries new.work) new.sink → IsLive new → TookMore g → WantsMore g → Codes old new bytes ended (CodeOutcome.Acted 1)
  alone_acts left kind drew live more wants = found_acts (ends_first first k) left (acts c kind) drew live more wants

  pub alone_stops : {new : Machine S g} {ended : Bool} {fault : DrawFault} → new.open_run ≡ old.open_run → kind_of c ≡ Kind.acts c → Fails g (code_rule old.work c) old.sink new.sink fault → FaultMatchesSink g old.sink new.sink (draw_fault fault) → Codes old new bytes ended (CodeOutcome.Stopped 0 (draw_fault fault) 0)
  alone_stops closed kind fails reported = found_stops (ends_first first k) refl closed (acts c kind) fails reported
