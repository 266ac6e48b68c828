-- What a sink of canonical text takes: entries and batches.

use Rattle.nap_canon.proofs.{AreCurrent, Attributes, Batch, Bool, Broke, Canonical, CharSet, Common.refusal_of_text, Common.text, Coordinates, CutAfter, Drawing, EachIsCurrent, Entry, Err, Fault, FirstIsCurrent, Form, Ghosts, Grows, Hand, IsCounted, IsRead, JoinedEntries.rest_current, Keeps, List, Ok, OnErr, OnOk, Output, Put, PutSome, PutsAfter, PutsPrefix, PutsSome, Putting, RefusesPage, Result, Sending, Sends, SendsAll, SendsSome, Some, StartsText, StartsTextIn, State, TakesAll, Took, Two, WantsMore, Write, Writer, WritesText, [], after, ap, append-nil, append_assoc, arith, attributes, batch_attributes, batch_entries, batch_is_current, canon_sink_model, drop, drop-drop, entry_bytes, entry_pieces, false, false≢true, grows_more, hand_attributes, hand_of, header, ink_attributes, ink_of, is_err, length, length-append, length-drop, length-take-le, line_entry, map, or-true, pieces, pieces_bytes, point_attributes, point_entry, polyline_entries, put_begins, put_ends, put_goes, put_halts, refl, sending, sending_of, sends_cut, sends_more, slice_index, some_put, start, subst, suc, sym, take, take-append-drop, take-take, take_more, text_end_after, text_end_after_header, text_entries_in, text_entry, took_broke, took_more, took_none, true, true≢false, walk, write_fails, zero, ℕ, ◌++◌, ◌+◌, ◌<◌, ◌||◌, ◌∙◌, ◌∷◌, ◌≡◌, ◌≤◌}
use Rattle.nap_list.specs.declared.device.Outlet as outlet

-- What an outlet took, write after write and entry after entry.

-- one entry more, or a failure amid its bytes

pub took_one : {O : Type 0} (o : outlet.Ghosts O) (s t : Canonical O) (e : Entry) → SendsAll (sending_of o s) (pieces_bytes s.text_end (entry_pieces s.form s.state e)) (sending_of o t) →
    t.form ≡ s.form → t.text_end ≡ text_end_after s.text_end (entry_pieces s.form s.state e) → t.state ≡ after s.state e → Took o s (e ∷ []) t
unfolding pieces walk
took_one o s t e bytes form text_end state = grind (arith, append-nil)

pub broke_one : {O : Type 0} (o : outlet.Ghosts O) (s t : Canonical O) (e : Entry) → SendsSome (sending_of o s) (pieces_bytes s.text_end (entry_pieces s.form s.state e)) (sending_of o t) →
    t.state ≡ s.state → Broke o s [] e t
unfolding pieces_bytes text_end_after pieces walk
broke_one o s t e bytes state = record { part = bytes.part; less = bytes.less; grows = bytes.grows; failed = bytes.failed; state = state }

-- what a writer answers for an entry

pub took_answered : {O T E : Type 0} (o : outlet.Ghosts O) {s t : Canonical O} (e : Entry) (r : Result T E) → is_err r ≡ false →
    Sends (sending_of o s) (pieces_bytes s.text_end (entry_pieces s.form s.state e)) (is_err r) (sending_of o t) → t.form ≡ s.form →
    OnOk r (t.text_end ≡ text_end_after s.text_end (entry_pieces s.form s.state e)) → OnOk r (t.state ≡ after s.state e) → Took o s (e ∷ []) t
took_answered o {s} {t} e (Ok _) none bytes form text_end state = took_one o s t e bytes form text_end state
took_answered o e (Err _) none bytes form text_end state = absurd (true≢false none)

pub broke_answered : {O T E : Type 0} (o : outlet.Ghosts O) {s t : Canonical O} (e : Entry) (r : Result T E) → is_err r ≡ true →
    Sends (sending_of o s) (pieces_bytes s.text_end (entry_pieces s.form s.state e)) (is_err r) (sending_of o t) → OnErr r (t.state ≡ s.state) → Broke o s [] e t
broke_answered o e r h h2 h3 = grind (arith, false≢true, broke_one)

module _ {O : Type 0} (form : Form) (o : outlet.Ghosts O) (w : O) (s : Canonical O) (begun : StartsTextIn form o w s) (works : o.failed s.outlet ≡ false) where
  -- the header, and then the bytes of entries, are the text
  pub first_of_text : (d : List Entry) → entry_bytes s d ≡ pieces_bytes text_end_after_header (pieces form start d)
  first_of_text d = grind arith

  pub header_sent : SendsAll (sending o w 0) header (sending_of o s)
  header_sent = subst (λ (broke : Bool). Sends (sending o w 0) header broke (sending_of o s)) works begun.begins

-- the header, and then the bytes of the entries
pub sink_writes_text : {O : Type 0} (o : outlet.Ghosts O) → WritesText o
sink_writes_text o w s t d begun works took =
    sends_more (sending o w 0) (sending_of o s) (sending_of o t) header (pieces_bytes text_end_after_header (pieces Two start d)) false (header_sent Two o w s begun works)
    (subst (λ (bs : List ℕ). SendsAll (sending_of o s) bs (sending_of o t)) (first_of_text Two o w s begun works d) took.bytes)

-- Bytes of which a prefix was taken.

in_parts : (bytes : List ℕ) (n : ℕ) → n < length bytes → (take n bytes ++ slice_index bytes n ∷ []) ++ drop (n + 1) bytes ≡ bytes
in_parts bytes n less = ap (λ (prefix : List ℕ). prefix ++ drop (n + 1) bytes) (sym (take_more bytes n 0 less)) ∙ take-append-drop (n + 1) bytes

-- none of one byte was taken
pub none_taken : {O : Type 0} (o : outlet.Ghosts O) (t u : O) (n : ℕ) (byte : ℕ) → Keeps (o.taken t) (o.taken u) → o.failed u ≡ (o.failed t || true) →
    o.write_failed u ≡ (o.write_failed t || true) → o.flushes u ≡ o.flushes t → SendsSome (sending o t n) (byte ∷ []) (sending o u n)
none_taken o t u n byte kept failed write_failed flushes = record {
  part = 0;
  less = omega arith;
  grows = write_fails o t u n kept failed write_failed flushes;
  failed = failed ∙ or-true (o.failed t);
}

-- a failure after n bytes is a failure during them all
pub cut_sends : {S : Type 0} (view : S → Sending) (s t : S) (bytes : List ℕ) (n : ℕ) → CutAfter (λ x bytes broke y. Sends (view x) bytes broke (view y)) s bytes n t →
    Sends (view s) bytes true (view t)
cut_sends view s t bytes n cut =
    let with_next : List ℕ = take n bytes ++ slice_index bytes n ∷ [] in
    subst (λ (bytes : List ℕ). Sends (view s) bytes true (view t)) (in_parts bytes n cut.less)
    (sends_cut (view s) (view t) with_next (drop (n + 1) bytes) (sends_more (view s) (view cut.mid) (view t) (take n bytes) (slice_index bytes n ∷ []) true cut.prefix cut.next))

-- The text of a page in memory.

-- the text that a sink wrote to an outlet that tells its bytes and had none
pub text_written : {O : Type 0} (o : outlet.Ghosts O) (w : O) (s t : Canonical O) (begins : StartsText o w s) (works : o.failed s.outlet ≡ false) (items : O → List ℕ) →
    ((u : O) → o.taken u ≡ Some (items u)) → items w ≡ [] → (d : List Entry) → Took o s d t → items t.outlet ≡ text d
text_written o w s t begins works items tells empty d took = grind (arith, sink_writes_text)

-- a page was refused whose text went into a sink that fails if memory runs out
pub refuses_page : {S : Type 0} (g : Ghosts S) (s : S) (budget : ℕ) (p : List ℕ) (f : Fault) (place : ℕ) → IsCounted g s budget p (Err (record { fault = f; place = place })) →
    RefusesPage budget p (refusal_of_text (record { fault = f; place = place }))
refuses_page g s budget p f place h = grind arith

-- a page was refused whose entries went into a sink that can't fail
pub refuses_counted : {S : Type 0} (g : Ghosts S) (s : S) (sound : (t : S) → g.failed t ≡ false) (budget : ℕ) (p : List ℕ) (f : Fault) (place : ℕ) →
    IsRead g s budget p (Err (record { fault = f; place = place })) → RefusesPage budget p (record { fault = f; place = place })
refuses_counted g s sound budget p f place h = grind arith

-- What a canonical sink that hasn't failed takes of a batch.

module _ {O : Type 0} (o : outlet.Ghosts O) (s t : Canonical O) (works : o.failed s.outlet ≡ false) where
  -- all of a list was taken
  pub takes_all : (list : List Entry) → Took o s list t → TakesAll (canon_sink_model o) list s t
  takes_all list took = grind (arith, false≢true)

  -- a list was taken up to an entry that failed
  pub breaks_at : (list prefix rest : List Entry) (next : Entry) (n : ℕ) → list ≡ prefix ++ next ∷ rest → length prefix ≡ n → Broke o s prefix next t →
      Put (canon_sink_model o) list s t (Err (record { taken = n; fault = Write }))
  breaks_at list prefix rest next n parts count broke = grind (arith, false≢true)

  -- an entry failed
  pub one_breaks : {E : Type 0} (e : Entry) (r : Result (Unit {0}) E) → is_err r ≡ true → Sends (sending_of o s) (pieces_bytes s.text_end (entry_pieces s.form s.state e)) (is_err r) (sending_of o t) →
      OnErr r (t.state ≡ s.state) → PutSome {A = Unit {0}} (canon_sink_model o) (e ∷ []) s t (Err Write)
  one_breaks e r failed bytes still =
      some_put (canon_sink_model o) (Unit {0}) s t (e ∷ []) 0 Write (breaks_at (e ∷ []) [] [] e 0 refl refl (broke_answered o e r failed bytes still))

-- a sink that has failed takes nothing of a list
pub none_put : {O : Type 0} (o : outlet.Ghosts O) (s : Canonical O) (list : List Entry) → o.failed s.outlet ≡ true → PutsSome o list s s (Err 0)
none_put o s list failed = grind arith

-- the sink that holds a writer
abbrev pub sink_of_writer : {O F : Type 0} → Writer (Output O) F → Canonical O
sink_of_writer w = record { outlet = w.target.outlet; written = w.target.written; form = w.form; text_end = w.pending.text_end; state = w.state }

abbrev SendsTo : {O : Type 0} → outlet.Ghosts O → Output O → List ℕ → Bool → Output O → Type 0
SendsTo o x bytes broke y = Sends (sending o x.outlet x.written) bytes broke (sending o y.outlet y.written)

-- entries that a writer put in one write
module _ {O F : Type 0} (o : outlet.Ghosts O) (w v : Writer (Output O) F) (works : o.failed w.target.outlet ≡ false) (list : List Entry) where
  abbrev s : Canonical O
  s = sink_of_writer w

  abbrev t : Canonical O
  t = sink_of_writer v

  -- the bytes taken before the failure
  cut_grows : (bytes : List ℕ) (n : ℕ) → CutAfter (SendsTo o) w.target bytes n v.target → Grows (sending_of o s) (take n bytes) (sending_of o t)
  cut_grows bytes n cut = grind (arith, append-nil, grows_more)

  prefix_put : (r : Result ℕ ℕ) → PutsPrefix (SendsTo o) list w v r → PutsSome o list s t r
  prefix_put (Ok count) put = grind (arith, takes_all)
  prefix_put (Err k) put =
      let sent = put.sent in
      let parted = sent.parted in
      let those = take sent.count list in
      let prefix = take k those in
      let same : prefix ≡ take k list = take-take k sent.count list (omega (arith, sent.less)) in
      let is : list ≡ prefix ++ parted.next ∷ (parted.rest ++ drop sent.count list) =
      sym (take-append-drop sent.count list)
      ∙ ap (λ (list' : List Entry). list' ++ drop sent.count list) parted.parts
      ∙ append_assoc prefix (parted.next ∷ parted.rest) (drop sent.count list) in
      let broke : Broke o s prefix parted.next t = record {
        part = parted.part;
        less = parted.less;
        grows = subst (λ (bs : List ℕ). Grows (sending_of o s) bs (sending_of o t)) parted.cut (cut_grows (entry_bytes s those) sent.far sent.cut);
        failed = sent.cut.next.failed;
        state = put.state ∙ ap (walk w.state) (sym same);
      } in
      breaks_at o s t works list prefix (parted.rest ++ drop sent.count list) parted.next k is (length-take-le k those (omega (arith, sent.less, length-take-le sent.count list sent.few))) broke

pub next_put : {O F : Type 0} (o : outlet.Ghosts O) (w : Writer (Output O) F) {v : Writer (Output O) F} (s : Canonical O) → sink_of_writer w ≡ s → o.failed s.outlet ≡ false → {list : List Entry} (r : Result ℕ ℕ) →
    PutsPrefix (SendsTo o) list w v r → PutsSome o list s (sink_of_writer v) r
next_put o w s is works r put = grind (arith, prefix_put)

-- a list that is put part by part

-- the attributes of a byte of a text, and of the first entry of a batch

typed_attributes : (set : CharSet) (hand : Hand) (code : ℕ) → attributes (text_entry set hand code) ≡ hand_attributes hand
typed_attributes set hand code = grind arith

pub first_holds : (batch : Batch) (e : Entry) (es : List Entry) → batch_entries batch ≡ e ∷ es → batch_attributes batch ≡ attributes e
unfolding polyline_entries text_entries_in
first_holds (Batch.Points points drawing) e es all = by points.now all
  where
    by : (ps : List Coordinates) → map (point_entry drawing.now) ps ≡ e ∷ es → point_attributes drawing.now.pel drawing.now.colour ≡ attributes e
    by [] all = cc
    by (p ∷ ps) all = let same : point_entry drawing.now p ≡ e = cc in ap attributes same
first_holds (Batch.Lines from points drawing) e es all = by points.now all
  where
    by : (ps : List Coordinates) → polyline_entries drawing.now from ps ≡ e ∷ es → ink_attributes (ink_of drawing.now) ≡ attributes e
    by [] all = cc
    by (p ∷ ps) all = let same : line_entry drawing.now from p ≡ e = cc in ap attributes same
first_holds (Batch.Text set codes pen drawing) e es all = by codes.now all
  where
    hand : Hand
    hand = record (hand_of drawing.now) { pen = pen }

    by : (cs : List ℕ) → text_entries_in set hand cs ≡ e ∷ es → hand_attributes hand ≡ attributes e
    by [] all = cc
    by (c ∷ cs) all = let same : text_entry set hand c ≡ e = cc in sym (typed_attributes set hand c) ∙ ap attributes same

first_current : (batch : Batch) (d : Drawing) → FirstIsCurrent batch d → AreCurrent (batch_attributes batch) d
first_current batch d h = grind arith

-- if those of the first entry are current, those of each are when it comes
pub each_current : (batch : Batch) (s : State) → FirstIsCurrent batch s.drawing → EachIsCurrent s (batch_entries batch)
unfolding EachIsCurrent
each_current batch s current = by (batch_entries batch) refl
  where
    by : (list : List Entry) → batch_entries batch ≡ list → EachIsCurrent s list
    by [] all = tt
    by (e ∷ es) all = (subst (λ (h : Attributes). AreCurrent h s.drawing) (first_holds batch e es all) (first_current batch s.drawing current), batch_is_current batch s e es all)

-- so are those of the entries after the first
pub current_after : (batch : Batch) (s t : State) (n : ℕ) → 0 < n → t ≡ walk s (take n (batch_entries batch)) → EachIsCurrent t (drop n (batch_entries batch))
unfolding walk EachIsCurrent
current_after batch s t zero some is = absurd (omega (arith, some))
current_after batch s t (suc n) some is = subst (λ (t : State). EachIsCurrent t (drop (suc n) (batch_entries batch))) (sym is) (by (batch_entries batch) refl)
  where
    by : (list : List Entry) → batch_entries batch ≡ list → EachIsCurrent (walk s (take (suc n) list)) (drop (suc n) list)
    by [] all = tt
    by (e ∷ es) all = rest_current (after s e) es n (batch_is_current batch s e es all)

-- so are those after the first, in the state that it leaves
pub current_after_first : (batch : Batch) (s : State) (e : Entry) (es : List Entry) → batch_entries batch ≡ e ∷ es → EachIsCurrent (after s e) (drop 1 (batch_entries batch))
unfolding walk
current_after_first batch s e es is = current_after batch s (after s e) 1 (omega arith) (sym (ap (λ (list : List Entry). walk s (take 1 list)) is))

-- the state after the first entry and others
pub walk_start : (s : State) (list : List Entry) (e : Entry) (es : List Entry) → list ≡ e ∷ es → (n : ℕ) → walk (after s e) (take n (drop 1 list)) ≡ walk s (take (suc n) list)
unfolding walk
walk_start s list e es is n = ap (λ (list : List Entry). walk (after s e) (take n (drop 1 list))) is ∙ sym (ap (λ (list : List Entry). walk s (take (suc n) list)) is)

wants_none : {O : Type 0} (o : outlet.Ghosts O) → WantsMore (canon_sink_model o)
wants_none o s t d e f took wants = absurd wants

-- a sink that took an entry hasn't failed
pub works_after : {O : Type 0} (o : outlet.Ghosts O) {s t : Canonical O} (list : List Entry) (n : ℕ) → PutsSome o list s t (Ok n) → o.failed t.outlet ≡ false
works_after o list n some = grind (arith, length-take-le, length)

-- how many entries of a list were taken before it halted
pub halts_within : {O : Type 0} (o : outlet.Ghosts O) (s t : Canonical O) (list : List Entry) (n : ℕ) → PutsSome o list s t (Err n) → n ≤ length list
halts_within o s t list n put = grind (arith, length, length-append)

module _ {O : Type 0} (o : outlet.Ghosts O) (s t u : Canonical O) (whole list : List Entry) (taken : ℕ) (putting : Putting (canon_sink_model o) s t whole (drop taken list)) where
  -- one part more was taken
  pub part_put : (more next : ℕ) → next ≡ taken + more → TakesAll (canon_sink_model o) (take more (drop taken list)) t u → Putting (canon_sink_model o) s u whole (drop next list)
  part_put more next is takes =
      put_goes (canon_sink_model o) s t whole (drop taken list) putting (took_more o) u (take more (drop taken list)) (drop next list)
      (sym (take-append-drop more (drop taken list))
      ∙ ap (λ (rest : List Entry). take more (drop taken list) ++ rest) (drop-drop more taken list ∙ ap (λ (n : ℕ). drop n list) (sym is))) takes

  -- an entry of the next part failed
  pub part_broke : (n : ℕ) → Put (canon_sink_model o) (drop taken list) t u (Err (record { taken = n; fault = Write })) →
      Put (canon_sink_model o) whole s u (Err (record { taken = length putting.done + n; fault = Write }))
  part_broke n put = put_halts (canon_sink_model o) s t whole (drop taken list) putting (took_more o) (took_broke o) (wants_none o) u n Write put

-- a list was put from an entry on, up to one that failed
pub broke_after : {O : Type 0} (o : outlet.Ghosts O) {s t u : Canonical O} (list : List Entry) (first taken more : ℕ) → first ≤ taken → taken ≤ length list →
    Putting (canon_sink_model o) s t (drop first list) (drop taken list) → PutsSome o (drop taken list) t u (Err more) → PutsAfter o first list s u (Err (taken + more))
broke_after o {s} {t} {u} list first taken more from few putting put = (
  length putting.done + more,
  omega (arith, from, few, ap length putting.parts, length-append putting.done (drop taken list), length-drop first list, length-drop taken list),
  part_broke o s t u (drop first list) list taken putting more put,
)

-- the attributes of the entries after a part are current
pub current_after_part : {O : Type 0} (o : outlet.Ghosts O) {t u : Canonical O} (list : List Entry) (taken more : ℕ) {next : ℕ} → next ≡ taken + more → EachIsCurrent t.state (drop taken list) →
    PutsSome o (drop taken list) t u (Ok more) → EachIsCurrent u.state (drop next list)
current_after_part o {t} {u} list taken more is all_current some =
    subst (λ (rest : List Entry). EachIsCurrent u.state rest) (drop-drop more taken list ∙ ap (λ (n : ℕ). drop n list) (sym is))
    (subst (λ (s : State). EachIsCurrent s (drop more (drop taken list))) (sym some.2.state) (rest_current t.state (drop taken list) more all_current))

-- the rest of a list after its first entries
pub rest_after : {O : Type 0} (o : outlet.Ghosts O) (s t u : Canonical O) (list : List Entry) (first : ℕ) → PutsSome o list s t (Ok first) →
    (r : Result (Unit {0}) ℕ) → PutsAfter o first list t u r → PutsAfter o 0 list s u r
rest_after o s t u list first some r put = by r put
  where
    -- the progress of putting the rest
    putting : Putting (canon_sink_model o) s t list (drop first list)
    putting = part_put o s s t list list 0 (put_begins (canon_sink_model o) s list (took_none o s)) first first (omega arith) some.2

    by : (r : Result (Unit {0}) ℕ) → PutsAfter o first list t u r → PutsAfter o 0 list s u r
    by (Ok x) takes = put_ends (canon_sink_model o) s u list [] (put_goes (canon_sink_model o) s t list (drop first list) putting (took_more o) u (drop first list) [] (sym (append-nil (drop first list))) takes) refl
    by (Err taken) put = (
      length putting.done + put.0,
      omega (arith, put.1, some.1, ap length putting.parts, length-append putting.done (drop first list), length-drop first list),
      part_broke o s t u list list first putting put.0 put.2,
    )
