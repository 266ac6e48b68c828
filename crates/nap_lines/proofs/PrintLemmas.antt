use Rattle.nap_lines.proofs.Common.{BatchFault, Bool, BreaksAfter, BrokeLines, Closes, DeviceFault, Entry, Err, FailsAfter, FaultMatchesDevice, HaltsAfter, IsErrAnd, LineSinkState, List, Ok, Printing, PrintsLines, PrintsUpTo, Put, PutSome, Result, Sending, SendsAll, SendsBuffered, SendsBytes, SendsPart, SinkFault, SinkModel, State, TakesAll, TakesLinesOf, TookLines, [], after, ap, append-nil, arith, drop, false, inr, length, length-take-le, line, line_memory, lines, lines_join, lists_none, passes_more, passes_none, passes_on, refl, sending, sending_by, sink_model, stops_after, subst, sym, take, take-add, take-append-drop, take_all, taken_count, took_none, true, walk, wanting_put, ℕ, ◌++◌, ◌+◌, ◌<◌, ◌∙◌, ◌∷◌, ◌≡◌}
use Rattle.nap_list.specs.declared.device.Outlet as outlet

-- The buffered bytes are sent.

-- all of them were sent, so none is left
pub sent_all : {bytes buffered now : List ℕ} (s t : Sending) → bytes ≡ buffered → now ≡ [] → SendsAll s bytes t → SendsBuffered s buffered now t (Ok tt)
sent_all s t is none sent = grind (arith, append-nil)

-- Lines after the buffered ones.

pub one_line : (e : Entry) → line e ++ 10 ∷ [] ≡ lines (e ∷ [])
one_line e = sym (append-nil (line e ++ 10 ∷ []))

-- bytes were buffered too, and then the buffer was sent
pub buffered_too : {s t : Sending} {buffered now bytes left : List ℕ} → now ≡ buffered ++ bytes → SendsPart s now [] left t → SendsPart s buffered bytes left t
buffered_too is h = record { sent = h.sent; parts = sym is ∙ sym (append-nil _) ∙ h.parts; grows = h.grows }

-- the buffered bytes were sent
pub sent_on : {s t u : Sending} {buffered mid left bytes : List ℕ} → SendsPart s buffered bytes mid t → SendsPart t mid [] left u → SendsPart s buffered bytes left u
sent_on first second = rw append-nil at (passes_more _ _ _ _ _ _ _ [] first second)

-- the buffered bytes are sent, and then the lines of more entries are made
pub chunk : (s t u : Sending) (list : List Entry) (n more : ℕ) (first buffered left now : List ℕ) → SendsPart s first (lines (take n list)) buffered t → SendsPart t buffered [] left u →
    now ≡ left ++ lines (take more (drop n list)) → SendsPart s first (lines (take (n + more) list)) now u
chunk s t u list n more first buffered left now passes sent is =
    rw (take-add n more list, lines_join (take n list), is) (passes_on _ _ _ _ _ _ (sent_on passes sent))

module _ {O : Type 0} (o : outlet.Ghosts O) where
  sent_part : {bytes buffered : List ℕ} (w u : O) (m n taken : ℕ) → bytes ≡ buffered → FailsAfter o w m bytes taken u n → SendsPart (sending o w m) buffered [] (drop taken bytes) (sending o u n)
  sent_part w u m n taken is stops = grind (arith, append-nil, take-append-drop)

  pub sent_some : {bytes buffered : List ℕ} (w u : O) (m n taken : ℕ) → bytes ≡ buffered → FailsAfter o w m bytes taken u n → (f : DeviceFault) →
      SendsBuffered (sending o w m) buffered buffered (sending o u n) (Err f)
  sent_some w u m n taken is stops f = ((_, sent_part w u m n taken is stops), stops.failed)

  -- a printer is closed

  pub closes_failed : (s : Printing O) → o.failed s.outlet ≡ true → Closes o s s.outlet s.written
  closes_failed s set = record { left = s.buffered; passes = passes_none _ _; all = λ works. cc; still = λ _. (refl, refl) }

  pub closes_by : {bytes : List ℕ} (s : Printing O) (w : O) (n : ℕ) (r : Result (Unit {0}) ℕ) → o.failed s.outlet ≡ false → bytes ≡ s.buffered → SendsBytes o s.outlet s.written bytes w n r → Closes o s w n
  closes_by s w n (Ok done) works is sent = grind (arith, sent_all)
  closes_by s w n (Err taken) works is stops = record { left = _; passes = sent_part s.outlet w s.written n taken is stops; all = λ clear. (let failed = stops.failed in cc); still = λ set. cc }

  -- the outlet of a printer that is seen to be as it was works
  pub works_still : {s t : Printing O} {failed : Bool} → s ≡ t → failed ≡ o.failed t.outlet → failed ≡ false → o.failed s.outlet ≡ false
  works_still same is works = ap (λ (s : Printing O). o.failed s.outlet) same ∙ sym is ∙ works

  -- what stays as it was while lines are printed
  pub prints_same : (s t : Printing O) (d : List Entry) (r : Result (Unit {0}) BatchFault) → PrintsLines o s d t r → (t.state ≡ s.state) × (t.space ≡ s.space)
  prints_same s t d (Ok done) is = (is.2, is.3)
  prints_same s t d (Err stop) is = (is.2, is.3)

  -- the model of a printer
  abbrev pub printer_shows : SinkModel (Printing O)
  printer_shows = sink_model (λ s. s.state) (λ s d. s.space < line_memory) (λ s. o.failed s.outlet) (TookLines o) (BrokeLines o)

  -- The lines of a list were printed, and the state advances.
  module _ (s t : Printing O) (v : State) (d : List Entry) (works : o.failed s.outlet ≡ false) (space : t.space ≡ s.space) where
    abbrev pub u : Printing O
    u = record t { state = v }

    took_front : (n : ℕ) → SendsPart (sending_by o s) s.buffered (lines (take n d)) t.buffered (sending_by o t) → o.failed t.outlet ≡ false → v ≡ walk s.state (take n d) → TookLines o s (take n d) u
    took_front n passes clear is = record { passes = passes; failed = clear ∙ sym works; state = is; space = space }

    -- a write failed after the lines of n entries
    breaks : (n : ℕ) (left : List ℕ) → n < length d → SendsPart (sending_by o s) s.buffered (lines (take n d)) left (sending_by o t) → o.failed t.outlet ≡ true → v ≡ walk s.state (take n d) →
        (rest : List Entry) → d ≡ take n d ++ rest → BreaksAfter (BrokeLines o) s d n u
    breaks n left less passes failed is [] parts = absurd (omega (arith, less, length-take-le n d (omega arith), ap length parts, ap length (append-nil (take n d))))
    breaks n left less passes failed is (x ∷ rest) parts = record {
      prefix = take n d;
      next = x;
      rest = rest;
      parts = parts;
      count = length-take-le n d (omega arith);
      broken = record {
        left = left ++ lines (x ∷ []);
        passes = rw (lines_join (take n d)) (passes_on _ _ _ _ _ _ passes);
        failed = failed;
        state = is;
      };
    }

    -- memory ran out, or a write failed, after the lines of n entries
    stopped : (n : ℕ) (fault : SinkFault) → PrintsUpTo o s d n t fault → n < length d → v ≡ walk s.state (take n d) → HaltsAfter printer_shows d s u n fault × FaultMatchesDevice printer_shows s u n fault
    stopped n SinkFault.Memory (passes, clear, few) less is = stops_after printer_shows s u d n less works clear (took_front n passes clear is) (λ x. few)
    stopped n SinkFault.Write ((left, passes), failed) less is = (
      inr (breaks n left less passes failed is (drop n d) (sym (take-append-drop n d))),
      record { write = λ _. failed; memory = λ e. cc; none = λ set. cc },
    )

    -- a batch was put into a printer
    pub put_at : (r : Result (Unit {0}) BatchFault) → PrintsLines o s d t r → v ≡ walk s.state (take (taken_count (length d) r) d) → Put printer_shows d s u r
    put_at (Ok done) (passes, clear, _, _) is =
        let all = take_all (length d) d (omega arith) in
        record {
          took = record { passes = passes; failed = clear ∙ sym works; state = is ∙ ap (walk s.state) all; space = space };
          state = is ∙ ap (walk s.state) all;
          works = λ _. clear;
          none = λ set. cc;
        }
    put_at (Err stop) (stops, less, _, _) is = stopped stop.taken stop.fault stops less is

  -- One entry's line was buffered too, and then the buffer was sent if it was large.
  module _ (s : Printing O) (e : Entry) (w : O) (n : ℕ) (mid now : List ℕ) (buffered_is : mid ≡ s.buffered ++ lines (e ∷ [])) where
    pub took_one : (v : State) (f : Unit {0}) → SendsBuffered (sending_by o s) mid now (sending o w n) (Ok f) → v ≡ walk s.state (e ∷ []) →
        TookLines o s (e ∷ []) (record s { outlet = w; written = n; buffered = now; state = v })
    took_one v f sent state = record { passes = buffered_too buffered_is sent.0; failed = sent.1; state = state; space = refl }

    pub broke_one : (f : DeviceFault) → SendsBuffered (sending_by o s) mid now (sending o w n) (Err f) →
        BrokeLines o s [] e (record s { outlet = w; written = n; buffered = now })
    unfolding walk
    broke_one f sent = record { left = sent.0.0; passes = buffered_too buffered_is sent.0.1; failed = sent.1; state = refl }

  -- a shape was taken, or why it wasn't

  pub shape_taken : (s u : Printing O) (e : Entry) → o.failed s.outlet ≡ false → TookLines o s (e ∷ []) u → TakesAll printer_shows (e ∷ []) s u
  shape_taken s u e works took = grind arith

  pub shape_broken : (s u : Printing O) (e : Entry) → o.failed s.outlet ≡ false → BrokeLines o s [] e u → PutSome {A = Unit {0}} printer_shows (e ∷ []) s u (Err SinkFault.Write)
  shape_broken s u e works broke = grind arith

  pub shape_refused : {now : List ℕ} (s : Printing O) (e : Entry) (r : Result (Unit {0}) SinkFault) → now ≡ s.buffered → IsErrAnd r (λ fault. fault ≡ SinkFault.Memory) → o.failed s.outlet ≡ false →
      s.space < line_memory → PutSome printer_shows (e ∷ []) s (record s { buffered = now }) r
  shape_refused s e r kept wants works few = rw kept (wanting_put printer_shows s e r wants (took_none o s) works few)

-- the model of a sink of lines
abbrev pub lines_shows : SinkModel LineSinkState
lines_shows = sink_model (λ s. s.state) (λ s d. Unit {0}) (λ s. false) TakesLinesOf (λ s d e t. ⊥)

-- a shape was put into a sink of lines

pub shape_listed : {s : LineSinkState} {old now : List ℕ} {v w : State} (e : Entry) → record { text = old; state = v } ≡ s → now ≡ old ++ (line e ++ 10 ∷ []) → w ≡ after v e →
    TakesAll lines_shows (e ∷ []) s (record { text = now; state = w })
unfolding walk
shape_listed e is text state = grind (arith, one_line)

pub shape_unlisted : {s : LineSinkState} {old now : List ℕ} {v : State} (e : Entry) (r : Result (Unit {0}) SinkFault) → record { text = old; state = v } ≡ s → now ≡ old →
    IsErrAnd r (λ fault. fault ≡ SinkFault.Memory) → PutSome lines_shows (e ∷ []) s (record { text = now; state = v }) r
shape_unlisted {s} e r is kept wants =
    rw kept (subst (λ u. PutSome lines_shows (e ∷ []) s u r) (sym is) (wanting_put lines_shows s e r wants (lists_none s) refl tt))
