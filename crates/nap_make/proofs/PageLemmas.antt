use Rattle.nap_make.proofs.{All-nil, AllFit, Appends, Appends-kept, Bool, Broke, Canonical, ComeFirst, ConcludesPage, DeniesInput, DeniesLines, EachGave, Entry, Err, FeedsFrom, Finishes, Ghosts, Grows, IsCutOff, IsPrefixOf, IsProper, IsReadWhole, Keeps, LineReader, LinesSoFar, List, ListFault, MakeFault, Makes, MakesList, MakesNoList, MakesNone, MakesPage, MakesPart, NoneFailed, Ok, PageFault, PutsLines, Reading, ReadsNoMore, RefusesLines, RefusesLinesBy, Result, Sends, ShowsNone, SinkTook, Some, StartsText, State, StopsLines, StopsLinesBy, Took, Two, Writes, [], ap, append-nil, append_assoc, arith, count_of, drop, entry_bytes, entry_bytes_after, entry_pieces, false, fault_of_input, fault_of_text, grows_more, header, inl, inr, page_answer, pieces, pieces-append, pieces_bytes, pieces_bytes-append, refl, sending, sending_of, sink_writes_text, start, subst, sym, take, take-append-drop, text, text_end_after, text_end_after_header, took_none, true, walk, ℕ, ◌++◌, ◌∙◌, ◌∷◌, ◌≡◌, ◌≢◌, ◌⊎◌}
use Rattle.nap_list.specs.declared.device.Outlet as outlet

-- The bytes of a canonical sink that failed during an entry, and how often its output was flushed.

module _ {O : Type 0} {o : outlet.Ghosts O} {w : O} {s : Canonical O} (begins : StartsText o w s) (works : o.failed s.outlet ≡ false) where
  -- the header was written
  header_went : Grows (sending o w 0) header (sending_of o s)
  unfolding pieces_bytes pieces
  header_went = subst (λ bytes. Grows (sending o w 0) bytes (sending_of o s)) (append-nil header) (sink_writes_text o w s s [] begins works (took_none o s)).grows

  -- the bytes of entries are those of a text after its header
  bytes_with_header : (d : List Entry) → entry_bytes s d ≡ pieces_bytes text_end_after_header (pieces Two start d)
  bytes_with_header d = grind arith

  -- the bytes of one more entry
  next_entry_bytes : (d : List Entry) (e : Entry) → entry_bytes_after s d e ≡ pieces_bytes (text_end_after text_end_after_header (pieces Two start d)) (entry_pieces Two (walk start d) e)
  next_entry_bytes d e = grind arith

  one_piece : (u : State) (e : Entry) → pieces Two u (e ∷ []) ≡ entry_pieces Two u e
  unfolding pieces
  one_piece u e = append-nil (entry_pieces Two u e)

  -- the text of one more entry
  text_more : (d : List Entry) (e : Entry) → text (d ++ e ∷ []) ≡ text d ++ entry_bytes_after s d e
  text_more d e =
      let u = walk start d in
      let text_end = text_end_after text_end_after_header (pieces Two start d) in
      let prefix = pieces_bytes text_end_after_header (pieces Two start d) in
      ap (λ ps. header ++ pieces_bytes text_end_after_header ps) (pieces-append Two start d (e ∷ []))
      ∙ ap (header ++◌) (pieces_bytes-append text_end_after_header (pieces Two start d) (pieces Two u (e ∷ [])))
      ∙ ap (λ ps. header ++ (prefix ++ pieces_bytes text_end ps)) (one_piece u e)
      ∙ ap (λ bytes. header ++ (prefix ++ bytes)) (sym (next_entry_bytes d e))
      ∙ sym (append_assoc header prefix (entry_bytes_after s d e))

  -- The bytes of a sink that failed during an entry are a prefix of the text of the entries before it and the entry.
  pub broken_sink_writes_prefix : (t : Canonical O) (d : List Entry) (e : Entry) → Broke o s d e t → (q : List ℕ) × Grows (sending o w 0) q (sending_of o t) × IsPrefixOf q (text (d ++ e ∷ []))
  broken_sink_writes_prefix t d e broke =
      let bytes = entry_bytes_after s d e in
      let part = take broke.part bytes in
      let all : header ++ (entry_bytes s d ++ part) ≡ text d ++ part =
      ap (λ bs. header ++ (bs ++ part)) (bytes_with_header d) ∙ sym (append_assoc header (pieces_bytes text_end_after_header (pieces Two start d)) part) in (
        text d ++ part,
        subst (λ bs. Grows (sending o w 0) bs (sending_of o t)) all (grows_more (sending o w 0) (sending_of o s) (sending_of o t) header (entry_bytes s d ++ part) header_went broke.grows),
        (
          drop broke.part bytes,
          text_more d e ∙ ap (text d ++◌) (sym (take-append-drop broke.part bytes)) ∙ sym (append_assoc (text d) part (drop broke.part bytes)),
        ),
      )

-- the text that a sink wrote to an output that tells its bytes and had none
pub text_written : {O : Type 0} (o : outlet.Ghosts O) (w : O) (s t : Canonical O) → StartsText o w s → o.failed s.outlet ≡ false → (items : O → List ℕ) →
    ((u : O) → o.taken u ≡ Some (items u)) → items w ≡ [] → (d : List Entry) → Took o s d t → items t.outlet ≡ text d
text_written o w s t begins works items tells empty d took = grind (arith, sink_writes_text)

-- The bytes that an output took of the page which lines make.

-- no lines yet
no_lines : LinesSoFar [] [] []
unfolding AllFit
no_lines = record { proper = All-nil IsProper; fit = tt; parts = refl }

-- lines that show a fault have it
pub shown_here : (p : List ℕ) (es : List Entry) (f : MakeFault) → ShowsNone p es f → MakesNone p es f
shown_here p es MakeFault.Memory shows = shows
shown_here p es f shows = subst (λ q. MakesNone q es f) (append-nil p) (shows [])

module _ {O : Type 0} (o : outlet.Ghosts O) (w : O) (s : Canonical O) (begins : StartsText o w s) (works : o.failed s.outlet ≡ false) (g : Ghosts (Canonical O))
    (took_is : (t : Canonical O) (d : List Entry) → g.took s d t → Took o s d t)
    (broke_is : (t : Canonical O) (d : List Entry) (e : Entry) → g.broke s d e t → Broke o s d e t)
    (failed_is : (t : Canonical O) → g.failed t ≡ o.failed t.outlet) (p : List ℕ) (seen : Reading) where
  -- The bytes written are a prefix of the text of the lines, and where a write failed nothing was read after it.
  record WentOut (t : Canonical O) (made : Result (Unit {0}) ListFault) (q : List ℕ) : Type 0 where
    pub grows : Grows (sending o w 0) q (sending_of o t)
    pub prefix : MakesPart p seen q
    pub stops : o.failed t.outlet ≡ true → EachGave p seen
    pub right : t.written ≡ count_of q → o.failed t.outlet ≡ false → MakesPage p seen q false (page_answer t.written made)

  -- the text of the entries that a sink kept
  kept_text : (t : Canonical O) (es : List Entry) → SinkTook g s es t → Grows (sending o w 0) (text es) (sending_of o t)
  kept_text t es kept = (sink_writes_text o w s t es begins works (took_is t es kept.took)).grows

  whole_prefix : (es : List Entry) → ComeFirst p es → IsReadWhole seen p ⊎ (IsCutOff seen p ⊎ EachGave p seen) → MakesPart p seen (text es)
  whole_prefix es first left = record { entries = es; rest = first.0; so_far = first.1; prefix = ([], sym (append-nil (text es))); left = left }

  -- an output whose sink works hasn't failed
  unbroken : (t : Canonical O) (es : List Entry) → SinkTook g s es t → o.failed t.outlet ≡ true → EachGave p seen
  unbroken t es kept broke = let bad : true ≡ false = sym broke ∙ sym (failed_is t) ∙ kept.works in cc

  refused : (t : Canonical O) (f : MakeFault) (es : List Entry) → f ≢ MakeFault.Write → RefusesLines p seen (text es) f → RefusesLinesBy p seen (text es) f
  refused t f es is fits = grind arith

  -- the list was made
  whole : (t : Canonical O) → IsReadWhole seen p → MakesList g s p t → (q : List ℕ) × WentOut t (Ok tt) q
  whole t read h = (
    text h.entries,
    record {
      grows = kept_text t h.entries h.kept;
      prefix = whole_prefix h.entries ([], h.so_far) (inl read);
      stops = unbroken t h.entries h.kept;
      right = λ count still. (count, record { read = read; made = record { entries = h.entries; are = h.are; text_is = refl } });
    },
  )

  -- the lines make no page, and all were read
  wrong_at_end : (t : Canonical O) (f : MakeFault) → IsReadWhole seen p → MakesNoList g s p t f → (q : List ℕ) × WentOut t (Err (ListFault.Lines f)) q
  wrong_at_end t f read h = (
    text h.entries,
    record {
      grows = kept_text t h.entries h.kept;
      prefix = whole_prefix h.entries h.first (inl read);
      stops = unbroken t h.entries h.kept;
      right = λ count still. (
        count,
        refused t f h.entries h.own (record { none_failed = read.none_failed; before = h.entries; why = h.why; text_is = refl; left = inl read }),
      );
    },
  )

  -- the lines that were read show that they make none
  shows_wrong : (t : Canonical O) (f : MakeFault) (es : List Entry) → f ≢ MakeFault.Write → EachGave p seen → ComeFirst p es → ShowsNone p es f → SinkTook g s es t →
      (q : List ℕ) × WentOut t (Err (ListFault.Lines f)) q
  shows_wrong t f es own gave first shows kept = (
    text es,
    record {
      grows = kept_text t es kept;
      prefix = whole_prefix es first (inr (inr gave));
      stops = unbroken t es kept;
      right = λ count still. (
        count,
        refused t f es own (record { none_failed = gave.none_failed; before = es; why = shown_here p es f shows; text_is = refl; left = inr shows }),
      );
    },
  )

  stopped : (t : Canonical O) (f : MakeFault) (es : List Entry) → EachGave p seen → ComeFirst p es → StopsLinesBy g s p es t f → (q : List ℕ) × WentOut t (Err (ListFault.Lines f)) q
  stopped t MakeFault.Write es gave first h =
      let wrote = broken_sink_writes_prefix begins works t es h.0 (broke_is t es h.0 h.2.broke) in
      let here = subst (λ q. ComeFirst q (es ++ h.0 ∷ [])) (append-nil p) (h.1 []) in (
        wrote.0,
        record {
          grows = wrote.1;
          prefix = record { entries = es ++ h.0 ∷ []; rest = here.0; so_far = here.1; prefix = wrote.2; left = inr (inr gave) };
          stops = λ broke. gave;
          right = λ count still. let bad = sym still ∙ sym (failed_is t) ∙ h.2.failed in cc;
        },
      )
  stopped t f es gave first h = shows_wrong t f es (λ is. let bad : ⊥ = cc in bad) gave first h.0 h.1

  went_out : (t : Canonical O) (made : Result (Unit {0}) ListFault) → Makes g s p seen t made → (q : List ℕ) × WentOut t made q
  went_out t (Ok done) h = whole t h.0 h.1
  went_out t (Err (ListFault.Lines f)) (inl h) = wrong_at_end t f h.0 h.1
  went_out t (Err (ListFault.Lines f)) (inr h) = stopped t f h.2.entries (record { none_failed = h.0; gave = h.1 }) h.2.first h.2.why
  went_out t (Err ListFault.Read) h = (
    text h.entries,
    record {
      grows = kept_text t h.entries h.kept;
      prefix = whole_prefix h.entries (h.rest, h.so_far) (inr (inl h.cut_off));
      stops = unbroken t h.entries h.kept;
      right = λ count still. (count, record { cut_off = h.cut_off; entries = h.entries; rest = h.rest; so_far = h.so_far; none = h.none; text_is = refl });
    },
  )

  -- the output as it is given back
  pub concluded : ((x : O) → o.write_failed x ≡ true → o.failed x ≡ true) → (t : Canonical O) (made : Result (Unit {0}) ListFault) (u : O) (answer : Result ℕ PageFault) → Makes g s p seen t made →
      Keeps (o.taken t.outlet) (o.taken u) → (o.failed t.outlet ≡ true → o.failed u ≡ true) → o.write_failed u ≡ o.write_failed t.outlet → ConcludesPage t.written made (o.failed u) answer →
      (q : List ℕ) × Appends (o.taken w) (o.taken u) q × MakesPage p seen q (o.failed u) answer × ReadsNoMore (o.write_failed u) p seen × Writes (sending o w 0) (sending_of o t)
  concluded law t made u answer makes keeps fails kept ends =
      let (q, out) = went_out t made makes in
      (q, Appends-kept _ _ _ q out.grows.taken keeps, at q out (o.failed u) refl ends, at_once q out (o.write_failed u) refl, out.grows.writes)
    where
      works_on : (b : Bool) → o.failed t.outlet ≡ b → o.failed u ≡ false → b ≡ false
      works_on false is still = refl
      works_on true is still = let bad = sym (fails is) ∙ still in cc

      at_once : (q : List ℕ) → WentOut t made q → (broke : Bool) → o.write_failed u ≡ broke → ReadsNoMore broke p seen
      at_once q out true is = out.stops (law t.outlet (sym kept ∙ is))
      at_once q out false is = tt

      counts : (q : List ℕ) → Grows (sending o w 0) q (sending_of o t) → t.written ≡ count_of q
      counts q h = omega (arith, h.count)

      at : (q : List ℕ) → WentOut t made q → (failed : Bool) → o.failed u ≡ failed → ConcludesPage t.written made failed answer → MakesPage p seen q failed answer
      at q out false is h = rw h (out.right (counts q out.grows) (works_on (o.failed t.outlet) refl is))
      at q out true is h = rw h (counts q out.grows, out.prefix)

-- the header was not written
pub header_fails : {O : Type 0} (o : outlet.Ghosts O) (w : O) (s : Canonical O) → StartsText o w s → o.failed s.outlet ≡ true → (seen : Reading) → EachGave [] seen → (u : O) (answer : Result ℕ PageFault) →
    Keeps (o.taken s.outlet) (o.taken u) → o.failed u ≡ true → ConcludesPage s.written (Ok tt) (o.failed u) answer →
    (q : List ℕ) × Appends (o.taken w) (o.taken u) q × MakesPage [] seen q (o.failed u) answer × ReadsNoMore (o.write_failed u) [] seen × Writes (sending o w 0) (sending_of o s)
header_fails o w s begins fails seen gave u answer keeps failed ends =
    let sent : Sends (sending o w 0) header true (sending_of o s) = subst (λ broke. Sends (sending o w 0) header broke (sending_of o s)) fails begins.begins in
    let q = take sent.part header in
    let prefix : IsPrefixOf q (text []) = (
      drop sent.part header ++ pieces_bytes text_end_after_header (pieces Two start []),
      ap (◌++ pieces_bytes text_end_after_header (pieces Two start [])) (sym (take-append-drop sent.part header)) ∙ append_assoc q (drop sent.part header) (pieces_bytes text_end_after_header (pieces Two start [])),
    ) in
    let is : answer ≡ Err (PageFault.Write s.written) = subst (λ b. ConcludesPage s.written (Ok tt) b answer) failed ends in (
      q,
      Appends-kept (o.taken w) (o.taken s.outlet) (o.taken u) q sent.grows.taken keeps,
      rw (failed, is) (omega (arith, sent.grows.count), record { entries = []; rest = []; so_far = no_lines; prefix = prefix; left = inr (inr gave) }),
      none_read (o.write_failed u),
      sent.grows.writes,
    )
  where
    none_read : (broke : Bool) → ReadsNoMore broke [] seen
    none_read true = gave
    none_read false = tt

-- Lines in memory, or of an input, make a page in memory, or none.

denies_lines : {S : Type 0} (g : Ghosts S) (s : S) (p : List ℕ) (t : S) (f : MakeFault) → PutsLines g s p t (Err f) → DeniesLines p (fault_of_text f)
denies_lines g s p t f is = grind arith

module _ {S : Type 0} (g : Ghosts S) (s : S) (p : List ℕ) (t : S) (r : Result ℕ MakeFault) where
  pub puts_page : (n : ℕ) → PutsLines g s p t r → r ≡ Ok n → Finishes g s p t (Ok n)
  puts_page n h is = subst (PutsLines g s p t) is h

  pub puts_no_page : (f : MakeFault) → PutsLines g s p t r → r ≡ Err f → DeniesLines p (fault_of_text f)
  puts_no_page f h is = denies_lines g s p t f (subst (PutsLines g s p t) is h)

-- Lines of an input.
module _ {S : Type 0} (g : Ghosts S) (s : S) (p : List ℕ) (seen : Reading) (t : S) where
  refuses : (es : List Entry) (f : MakeFault) → NoneFailed seen → MakesNone p es f → IsReadWhole seen p ⊎ ShowsNone p es f → RefusesLines p seen (text es) f
  refuses es f none why left = record { none_failed = none; before = es; why = why; text_is = refl; left = left }

  shown : (es : List Entry) (f : MakeFault) → NoneFailed seen → ShowsNone p es f → RefusesLines p seen (text es) f
  shown es f none shows = refuses es f none (shown_here p es f shows) (inr shows)

  -- the lines of an input make none
  denies_input : (f : MakeFault) → Makes g s p seen t (Err (ListFault.Lines f)) → DeniesInput p seen (ListFault.Lines (fault_of_text f))
  denies_input MakeFault.Memory (inl h) = h.0.none_failed
  denies_input MakeFault.Memory (inr h) = h.0
  denies_input MakeFault.Write (inl h) = h.0.none_failed
  denies_input MakeFault.Write (inr h) = h.0
  denies_input f (inl h) = (text h.1.entries, refuses h.1.entries f h.0.none_failed h.1.why (inl h.0))
  denies_input f (inr h) = (text h.2.entries, shown h.2.entries f h.0 h.2.why.0)

  pub makes_page : (r : Result (Unit {0}) ListFault) → Makes g s p seen t r → r ≡ Ok tt → IsReadWhole seen p × MakesList g s p t
  makes_page r h is = subst (Makes g s p seen t) is h

  denied : (f : ListFault) → Makes g s p seen t (Err f) → DeniesInput p seen (fault_of_input f)
  denied f is = grind (arith, denies_input)

  pub made_none : (r : Result (Unit {0}) ListFault) (f : ListFault) → Makes g s p seen t r → r ≡ Err f → DeniesInput p seen (fault_of_input f)
  made_none r f h is = denied f (subst (Makes g s p seen t) is h)

-- What was read of an input or of memory makes a list, or none.

pub makes_none : {S : Type 0} (g : Ghosts S) (s : S) (p : List ℕ) (seen : Reading) (r : LineReader S) (f : ListFault) → FeedsFrom g s p seen r (Err f) → Makes g s p seen r.maker.sink (Err f)
makes_none g s p seen r f is = grind (arith, whole)

module _ {S : Type 0} (g : Ghosts S) (s : S) (p : List ℕ) (t : S) where
  -- lines that show that no list has them are no list's
  shown_none : (f : MakeFault) (es : List Entry) → f ≢ MakeFault.Write → ComeFirst p es → ShowsNone p es f → SinkTook g s es t → MakesNoList g s p t f
  shown_none f es own first shows kept = record {
    entries = es;
    first = first;
    own = own;
    why = shown_here p es f shows;
    kept = kept;
  }

  -- the lines are no list's, or the sink failed
  pub puts_none : (f : MakeFault) → StopsLines g s p t f → PutsLines g s p t (Err f)
  puts_none MakeFault.Write is = is
  puts_none f is = shown_none f is.entries (λ same. let bad : ⊥ = cc in bad) is.first is.why.0 is.why.1

  -- the lines ended
  pub puts_all : (r : Result ℕ MakeFault) → Finishes g s p t r → PutsLines g s p t r
  puts_all r is = grind arith
