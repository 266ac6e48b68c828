use Rattle.nap_reader.proofs.Common.{ActsRun, All, All-head, All-tail, Bool, Codes, Continues, DrawFault, DrawsBy, Executes, FailsRun, FaultMatchesSink, Ghosts, HasRunMemory, IsLive, IsOpcodeByte, IsOver, IsSpared, IsWholeRun, KeepsMemory, LeadsOn, LeadsThrough, List, LongRun, Memory, None, Nothing, Opcode, OpenRun, Outcome, Placed, ReadingState, Refusal, Refuses, RuleResult, Some, Stop, Stops, StopsRun, Takes, WantsFor, [], ap, append-nil, append_assoc, arith, bytes_of, clear_request_if, draw_fault, drop, drop-map, drop_more, false, get_or, inl, inr, is_operand_byte, length, length-append, length-drop, length-map, length-take-le, map, operand_words, place_at, prefix_len, prefix_len-le-length, prefix_len_passes, refl, refusal, rule, run_limit, state_after_request, subst, sym, take, take-append-drop, true, vec_capacity, with_machine, ℕ, ◌%◌, ◌++◌, ◌+◌, ◌-◌, ◌<◌, ◌∙◌, ◌∷◌, ◌≡◌, ◌≢◌, ◌≤◌, ◌⊎◌}
use Rattle.nap_reader.proofs.Base.{TookMore, WantsMore, acts_ahead, as_it_was, bytes_of-append, conveys_nothing, first_of, lacks, more_words, operands_prefix, run_over, same_words, split_bytes, stops_now, stops_own, stops_run, word_joins, word_too_many}
use Rattle.nap_reader.specs.declared.machine.Machine.{Machine}
use Rattle.nap_reader.proofs.TakingLemmas.{Drew, LeftBy, asked_is, asks_takes, leads_after, own_spares, stop_takes, stops_after, works_on, works_still}
use Rattle.nap_draw.specs.Draws as draws
use Rattle.nap_reader.specs.declared.machine.codes.CodeOutcome.{CodeOutcome}
use Rattle.nap_reader.proofs.CodesLemmas.{StartsRun, open_at, run_opened}

-- A stretch of bytes has the effect of its bytes one after another.

-- the words of operand bytes
abbrev pub words : List ℕ → List ℕ
words bytes = map (λ b. b - 64) bytes

-- operand bytes of an open run join it, whatever comes after them
words_join : {S : Type 0} {g : Ghosts S} {s : S} {o : Outcome} {t : S} {h : ReadingState} {open_run : OpenRun} (xs pending : List Placed) → h.open_body ≡ None → h.open_run ≡ Some open_run → Continues g s o t h (xs ++ pending) →
    All (λ b. is_operand_byte b ≡ true) (bytes_of xs) → length h.run + length xs ≤ run_limit → Continues g s o t (record h { run = h.run ++ words (bytes_of xs) }) pending
words_join {h = h} [] pending between opened k all few = rw (append-nil h.run) k
words_join {g = g} {s = s} {o = o} {t = t} {h = h} (x ∷ xs) pending between opened k all few =
    let b = x.byte in
    let h' : ReadingState = record h { run = h.run ++ (b - 64) ∷ [] } in
    let one : Continues g s o t h' (xs ++ pending) =
    word_joins between opened k (All-head (λ b. is_operand_byte b ≡ true) b (bytes_of xs) all) (omega (arith, few)) in
    rw (sym (append_assoc h.run ((b - 64) ∷ []) (words (bytes_of xs))))
    (words_join {h = h'} xs pending between opened one (All-tail (λ b. is_operand_byte b ≡ true) b (bytes_of xs) all)
    (omega (arith, few, length-append h.run ((b - 64) ∷ []))))

-- Operands of an open run.

-- This run is open, and no body. Operands come next, for which it has space, and then these bytes.
pub record HasSpace (h : ReadingState) (open_run : OpenRun) (all : List Placed) (k : ℕ) (run rest : List ℕ) : Type 0 where
  pub is : h.open_run ≡ Some open_run
  pub between : h.open_body ≡ None
  pub count : k ≡ length run
  pub comes : bytes_of all ≡ run ++ rest
  pub operands : All (λ b. is_operand_byte b ≡ true) run
  pub short : length h.run + k ≤ run_limit

module _ {S : Type 0} (g : Ghosts S) (t : S) {h : ReadingState} {open_run : OpenRun} {all : List Placed} {k : ℕ} {run rest : List ℕ} (space : HasSpace h open_run all k run rest) where
  -- the reading state with these operands
  abbrev pub joined : ReadingState
  joined = record h { run = h.run ++ words run }

  parts : (bytes_of (take k all) ≡ run) × (bytes_of (drop k all) ≡ rest)
  parts = rw space.count (split_bytes all run rest space.comes)

  -- The operands join the run.
  joins : LeadsThrough g t h [] (take k all)
  joins = record {
    sink = t;
    holding = joined;
    left = refl;
    run = λ n all before. before;
    passes = λ s o pending c.
        subst (λ (run : List ℕ). Continues g s o t (record h { run = h.run ++ words run }) pending) parts.0
        (words_join (take k all) pending space.between space.is c (subst (All (λ b. is_operand_byte b ≡ true)) (sym parts.0) space.operands)
        (omega (arith, space.short, space.count, ap length parts.0, length-map (take k all) (λ (x : Placed). x.byte))));
    none = λ none. (refl, ap (λ (ws : List ℕ). record h { run = ws }) (ap (λ (bytes : List ℕ). h.run ++ words bytes) (sym parts.0 ∙ ap bytes_of none) ∙ append-nil h.run), refl);
  }

  -- The operands wait for further bytes.
  operands_wait : {v : S} {retained : ReadingState} (next : List ℕ) → v ≡ t → retained ≡ joined → LeadsOn g t h v retained (take k all) next
  unfolding joins
  operands_wait next sink same = record { conveys = joins; acted = as_it_was sink same }

  -- The run acts before a byte that is no operand.
  operands_act : TookMore g → IsOver rest → {v : S} {h' : ReadingState} → ActsRun g t joined v h' → LeadsOn g t h v h' (take k all) (bytes_of (drop k all))
  unfolding joins
  operands_act more over acts = record { conveys = joins; acted = acts_ahead more (subst IsOver (sym parts.1) over) acts }

  -- The run is refused, or breaks, before a byte that is no operand.
  operands_stop : IsOver rest → {v : S} {r : Refusal} → StopsRun g t joined v r → Stops g t h all k v r
  unfolding joins
  operands_stop over stops =
      let (x, ys, left, byte, others) = first_of (drop k all) over.byte over.rest (parts.1 ∙ over.is) in
      record { byte = x; following = ys; is = left; owed = []; leads = joins; stops = stops_run (ap is_operand_byte byte ∙ over.other) stops }

  -- The operands are more than the run has space for.
  operands_long : (b : ℕ) (bytes : List ℕ) → rest ≡ b ∷ bytes → is_operand_byte b ≡ true → length h.run + k ≡ run_limit → Stops g t h all k t (refusal LongRun open_run.place)
  unfolding joins
  operands_long b bytes is word full =
      let (x, ys, left, byte, others) = first_of (drop k all) b bytes (parts.1 ∙ is) in
      record {
        byte = x;
        following = ys;
        is = left;
        owed = [];
        leads = joins;
        stops = stops_own g t joined x t (refusal LongRun open_run.place) refl
            (λ s o pending c. word_too_many space.between space.is c (ap is_operand_byte byte ∙ word) (omega (arith, full, space.count, length-append h.run (words run), length-map run (λ (b : ℕ). b - 64))));
      }

-- The operand bytes of a prefix of a slice.

-- the number of operand bytes of a prefix
abbrev pub operands_in : List Placed → ℕ
operands_in xs = prefix_len is_operand_byte (bytes_of xs)

within : (xs : List Placed) → operands_in xs ≤ length xs
within xs = omega (arith, length-map xs (λ (x : Placed). x.byte), prefix_len-le-length is_operand_byte (bytes_of xs))

-- no operand comes after all of the operand bytes
pub over_after : (xs : List Placed) (count : ℕ) (ended : Bool) → count ≡ operands_in xs → (count ≡ length xs → ended ≡ true) → (following : List Placed) → (ended ≡ true → IsOver (bytes_of following)) → IsOver (bytes_of (drop count xs ++ following))
over_after xs count ended counted ends following over =
    rw (bytes_of-append (drop count xs) following, ← (drop-map (λ (x : Placed). x.byte) count xs))
    (run_over (bytes_of xs) (bytes_of following) count counted (λ all. over (ends (all ∙ length-map xs (λ (x : Placed). x.byte)))))

-- The effect of operand bytes on a machine with an open run.

module _ {S : Type 0} {g : Ghosts S} (old : Machine S g) (open_run : OpenRun) (is : old.open_run ≡ Some open_run) (h : ReadingState) where
  counted : length (with_machine h old).run ≡ length old.run.items
  counted = rw is (length-map old.run.items (λ b. b % 64))

  has_space : h.open_body ≡ None → (xs following : List Placed) (k : ℕ) → k ≤ operands_in xs → length old.run.items + k ≤ run_limit →
      HasSpace (with_machine h old) open_run (xs ++ following) k (take k (bytes_of xs)) (drop k (bytes_of xs) ++ bytes_of following)
  has_space between xs following k few short = record {
    is = is;
    between = between;
    count = sym (length-take-le k (bytes_of xs) (omega (arith, few, prefix_len-le-length is_operand_byte (bytes_of xs))));
    comes = bytes_of-append xs following ∙ ap (λ (bs : List ℕ). bs ++ bytes_of following) (sym (take-append-drop k (bytes_of xs))) ∙ append_assoc (take k (bytes_of xs)) (drop k (bytes_of xs)) (bytes_of following);
    operands = operands_prefix (bytes_of xs) k few;
    short = omega (arith, short, counted);
  }

-- The operand bytes are more than the run has space for.
pub run_too_long : {S : Type 0} {g : Ghosts S} {old new : Machine S g} {open_run : OpenRun} {xs : List Placed} (ended : Bool) (most : ℕ) → old.open_run ≡ Some open_run → most < operands_in xs → length old.run.items + most ≡ run_limit →
    new.refusal ≡ Some (refusal LongRun open_run.place) → new.sink ≡ old.sink → Takes old new xs ended most Stop
run_too_long {g = g} {old = old} {open_run = open_run} {xs = xs} ended most is less full refused same =
    let bytes = bytes_of xs in
    let next = drop_more bytes most 0 (omega (arith, less, prefix_len-le-length is_operand_byte bytes)) in
    stop_takes refused same (omega (arith, less, within xs)) (grind arith) (λ spared. own_spares refl) (λ h following between over.
    operands_long g old.sink (has_space old open_run is h between xs following most (omega (arith, less)) (omega (arith, full))) _ _ (ap (λ (bs : List ℕ). bs ++ bytes_of following) next)
    (prefix_len_passes is_operand_byte bytes most 0 less) (omega (arith, full, counted old open_run is h)))

-- Memory is lacking for the operand bytes.
pub run_lacks : {S : Type 0} {g : Ghosts S} {old new : Machine S g} {open_run : OpenRun} {xs : List Placed} (ended : Bool) → old.open_run ≡ Some open_run → 0 < operands_in xs → length old.run.items + operands_in xs ≤ run_limit →
    new.refusal ≡ Some (refusal Memory (place_at xs 0)) → new.sink ≡ old.sink → (HasRunMemory old → ⊥) → Takes old new xs ended 0 Stop
run_lacks {xs = []} ended is some short refused same full = absurd (omega (arith, some))
run_lacks {g = g} {old = old} {open_run = open_run} {xs = x ∷ xs} ended is some short refused same full =
    let word = prefix_len_passes is_operand_byte (x.byte ∷ bytes_of xs) 0 0 some in
    stop_takes refused same (omega arith) (grind arith) (λ spared _. full spared.0) (λ h following between over.
    stops_now refl (lacks g old.sink (with_machine h old) x _ [] (inl word) (inr (refl, inl (open_run, between, is, word)))
    (λ known s o pending k. word_joins between is k word (omega (arith, some, short, counted old open_run is h)))))

-- The operand bytes joined the open run.
pub record Joins {S : Type 0} {g : Ghosts S} (old mid : Machine S g) (open_run : OpenRun) (xs : List Placed) (count : ℕ) : Type 0 where
  pub is : old.open_run ≡ Some open_run
  pub counted : count ≡ operands_in xs
  pub short : length old.run.items + count ≤ run_limit
  pub items : mid.run.items ≡ old.run.items ++ take count (bytes_of xs)
  pub same : (mid.work ≡ old.work) × (mid.lexer ≡ old.lexer) × (mid.open_run ≡ old.open_run) × (mid.sink ≡ old.sink)
  pub kept : KeepsMemory old mid

-- They wait for further bytes.
pub run_waits : {S : Type 0} {g : Ghosts S} {old mid : Machine S g} {open_run : OpenRun} {xs : List Placed} {ended : Bool} {count : ℕ} → Joins old mid open_run xs count → IsLive mid → Takes old mid xs ended count Nothing
run_waits {g = g} {old = old} {open_run = open_run} {xs = xs} {count = count} j live =
    let (work, lexer, run, sink) = j.same in
    let few : count ≤ operands_in xs = omega (arith, j.counted) in
    record {
      within = omega (arith, few, within xs);
      leaves = works_still j.kept sink live;
      by = λ h following between over.
          operands_wait g old.sink (has_space old open_run j.is h between xs following count few j.short) (bytes_of (drop count (xs ++ following))) sink
          (rw (work, lexer, run, j.items)
          (ap (λ (ws : List ℕ). record (with_machine h old) { run = ws }) (more_words old.open_run open_run old.run.items (take count (bytes_of xs)) j.is (operands_prefix (bytes_of xs) count few))));
    }

-- No operand comes next.
module _ {S : Type 0} {g : Ghosts S} {mid new : Machine S g} {xs : List Placed} {ended : Bool} (over : (following : List Placed) → (ended ≡ true → IsOver (bytes_of following)) → IsOver (bytes_of (xs ++ following))) where
  -- The opcode of the open run acts.
  pub run_acts : TookMore g → (clears : Bool) → Executes mid new clears → Takes mid new xs ended 0 (clear_request_if clears)
  run_acts more clears (works, closed, acted) =
      asks_takes clears works (omega arith) (λ h following between known. record { conveys = conveys_nothing g mid.sink (with_machine h mid); acted = acts_ahead more (over following known) (acted h between) })

  -- It is refused, or breaks.
  pub run_stops : {failed : Machine S g} {r : Refusal} → FailsRun mid failed r → Refuses failed new r → Takes mid new xs ended 0 Stop
  run_stops (stopped, tells, spares) refuses =
      stop_takes refuses.is refuses.sink (omega arith) tells spares (λ h following between known.
      let next = over following known in
      let (x, ys, left, byte, others) = first_of (xs ++ following) next.byte next.rest next.is in
      stops_now left (stops_run (ap is_operand_byte byte ∙ next.other) (stopped h between)))

-- the opcode's rule doesn't lack memory
pub run_spares : {S : Type 0} {g : Ghosts S} (old : Machine S g) (run : List ℕ) (fault : DrawFault) → (fault ≡ DrawFault.Memory → (vec_capacity old.scratch < length run) ⊎ WantsFor g old.sink) → length run ≤ run_limit → IsSpared old → draw_fault fault ≢ Memory
run_spares old run fault h k e is = grind arith

-- The effect of an opcode on a machine without an open run.

-- The opcode's run is complete: these bytes are the opcode, its run, and what comes after it.
pub record RunsWhole {S : Type 0} {g : Ghosts S} (old : Machine S g) (op : Opcode) (bytes : List ℕ) (ended : Bool) (run : List ℕ) : Type 0 where
  pub some : 0 < length bytes
  pub closed : old.open_run ≡ None
  pub is : IsOpcodeByte old.lexer.half old.lexer.sets (get_or bytes 0 0) op
  pub short : length run ≤ run_limit
  pub whole : (following : List ℕ) → (ended ≡ true → IsOver following) → IsWholeRun (drop 1 bytes) following run

run_within : {S : Type 0} {g : Ghosts S} {old : Machine S g} {op : Opcode} {bytes : List ℕ} {ended : Bool} {run : List ℕ} → RunsWhole old op bytes ended run → length run + 1 ≤ length bytes
run_within {bytes = bytes} r = omega (arith, (r.whole (0 ∷ []) (λ _. record { byte = 0; rest = []; is = refl; other = refl })).within, r.some, length-drop 1 bytes)

module _ {S : Type 0} {g : Ghosts S} {old : Machine S g} {op : Opcode} (x : Placed) (ys : List Placed) {ended : Bool} {run : List ℕ} (r : RunsWhole old op (x.byte ∷ bytes_of ys) ended run)
    (h : ReadingState) (following : List Placed) (between : h.open_body ≡ None) (over : ended ≡ true → IsOver (bytes_of following)) where
  abbrev all : List Placed
  all = ys ++ following

  whole : IsWholeRun (bytes_of ys) (bytes_of following) run
  whole = r.whole (bytes_of following) over

  start : StartsRun (with_machine h old) x op
  start = record { between = between; closed = r.closed; is = r.is }

  space : HasSpace (open_at start) (record { op = op; place = x.place }) all (length run) run whole.rest
  space = record { is = refl; between = between; count = refl; comes = bytes_of-append ys following ∙ whole.front; operands = whole.operands; short = omega (arith, r.short) }

  run_words : operand_words run ≡ words run
  run_words = same_words run whole.operands

  whole_leads : (new : Machine S g) (drawn : RuleResult) → LeftBy old new drawn.work old.lexer → Drew g (rule old.work op (operand_words run)) old.sink drawn new.sink → TookMore g →
      LeadsOn g old.sink (with_machine h old) new.sink (state_after_request (with_machine h new) (clear_request_if drawn.clears)) (take (1 + length run) (x ∷ all)) (bytes_of (drop (1 + length run) (x ∷ all)))
  whole_leads new drawn left drew more =
      leads_after (x ∷ all) 1 (run_opened start (bytes_of all) refl refl) (length run) (operands_act g old.sink space more whole.over (record {
        open_run = record { op = op; place = x.place };
        between = between;
        is = refl;
        drawn = drawn;
        by = rw (← run_words) drew.is;
        took = drew.took;
        clear = drew.clear;
        holds = rw (left.work_is, left.lexer_is, left.closed, r.is.rested) (asked_is (record (with_machine h old) { half = []; open_run = None; run = [] }) drawn.work drawn.clears);
      }))

  stops : (u : S) (fault : DrawFault) → DrawsBy g.took g.broke g.failed (rule old.work op (operand_words run)) old.sink u fault (draws.draw_cause fault) →
      Stops g old.sink (with_machine h old) (x ∷ all) (1 + length run) u (refusal (draw_fault fault) x.place)
  stops u fault drew =
      stops_after (x ∷ all) 1 (run_opened start (bytes_of all) refl refl) (length run) (operands_stop g old.sink space whole.over (record {
        open_run = record { op = op; place = x.place };
        between = between;
        is = refl;
        fault = fault;
        why = refl;
        drew = rw (← run_words) drew;
      }))

-- the outcome of an opcode, which may have unbound all names
abbrev pub outcome_of : Bool → ℕ → CodeOutcome
outcome_of true count = CodeOutcome.Clears count
outcome_of false count = CodeOutcome.Acted count

asks_codes : {S : Type 0} {g : Ghosts S} {old new : Machine S g} {bytes : List ℕ} {ended : Bool} {count : ℕ} (clears : Bool) → (0 < count) × (count ≤ length bytes) → new.open_run ≡ old.open_run →
    ((x : Placed) (ys : List Placed) → bytes ≡ x.byte ∷ bytes_of ys → Takes old new (x ∷ ys) ended count (clear_request_if clears)) → Codes old new bytes ended (outcome_of clears count)
asks_codes clears h k e = grind arith

module _ {S : Type 0} {g : Ghosts S} {old : Machine S g} {op : Opcode} {bytes : List ℕ} {ended : Bool} {run : List ℕ} (r : RunsWhole old op bytes ended run) where
  -- The opcode acts on its run.
  pub opcode_acts : {new : Machine S g} (drawn : RuleResult) → LeftBy old new drawn.work old.lexer → Drew g (rule old.work op (operand_words run)) old.sink drawn new.sink → IsLive new → TookMore g → WantsMore g → Codes old new bytes ended (outcome_of drawn.clears (length run + 1))
  opcode_acts {new} drawn left drew live more wants =
      asks_codes drawn.clears (omega arith, run_within r) (left.closed ∙ sym left.before) (λ x ys is.
      let one : length run + 1 ≡ 1 + length run = omega arith in
      asks_takes drawn.clears (works_on _ left.kept wants drew.took drew.clear live) (omega (arith, run_within r, ap length is, length-map ys (λ (x : Placed). x.byte)))
      (λ h following between over. rw one (whole_leads x ys (rw is at r) h following between over new drawn left drew more)))

  -- The opcode is refused on its run, or breaks.
  pub opcode_stops : {new : Machine S g} (fault : DrawFault) → new.open_run ≡ old.open_run → DrawsBy g.took g.broke g.failed (rule old.work op (operand_words run)) old.sink new.sink fault (draws.draw_cause fault) →
      FaultMatchesSink g old.sink new.sink (draw_fault fault) → (IsSpared old → draw_fault fault ≢ Memory) → Codes old new bytes ended (CodeOutcome.Stopped (length run + 1) (draw_fault fault) 0)
  opcode_stops {new} fault closed drew reported spares = record {
    within = (run_within r, omega (arith, run_within r));
    closed = closed;
    by = λ x ys is kept refuses.
        let one : length run + 1 ≡ 1 + length run = omega arith in
        stop_takes refuses.is refuses.sink (omega (arith, run_within r, ap length is, length-map ys (λ (x : Placed). x.byte))) reported spares
        (λ h following between over. rw one (stops x ys (rw is at r) h following between over new.sink fault drew));
  }

-- The opcode's run opens.
pub run_starts : {S : Type 0} {g : Ghosts S} {old mid : Machine S g} {x : Placed} {op : Opcode} {xs : List Placed} {ended : Bool} → old.open_run ≡ None → IsOpcodeByte old.lexer.half old.lexer.sets x.byte op → mid.open_run ≡ Some (record { op = op; place = x.place }) → mid.run.items ≡ [] →
    (mid.work ≡ old.work) × (mid.lexer ≡ old.lexer) × (mid.sink ≡ old.sink) → KeepsMemory old mid → IsLive mid → Takes old mid (x ∷ xs) ended 1 Nothing
run_starts {g = g} {xs = xs} closed is run items (work, lexer, sink) kept live = record {
  within = omega arith;
  leaves = works_still kept sink live;
  by = λ h following between over. run_opened (record { between = between; closed = closed; is = is }) (bytes_of (xs ++ following)) sink (rw (work, lexer, run, is.rested, items));
}
