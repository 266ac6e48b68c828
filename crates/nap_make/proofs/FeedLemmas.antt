-- The entries and the bytes of one line after another.

use Rattle.nap_make.proofs.{All, All-append, All-drop, All-head, All-nil, All-push, All-tail, All-take, All-weaker, AllFit, BeginsLine, BeginsNoLine, BeginsWithSpace, Bool, Entry, Err, FaultMatchesDevice, Finishes, Fits, Ghosts, HaltsAfter, HasReadLines, IfErr, InRange, IsEntryLine, IsPlace, IsProper, IsReady, IsSome, IsUnendedLine, IsWritten, LineMaker, LineReader, LinesSoFar, List, MakeFault, MakerHasPut, MatchResult, None, Ok, OnOk, OpenDefinition, OpenedAt, Option, PublicLaws.lines_are_bounded, PublicLaws.lines_have_no_ends, PutsEntries, Result, SinkFault, SinkTook, Some, State, StopsLines, StopsLinesBy, TakesLines, TellsColumn, TookBroke, TookMore, ValueLemmas.no_cut, ValueLemmas.one_cut, WritesNone, [], after, ap, append-nil, append_assoc, arith, drop, drop-append_seam, false, false_from_ne_true, false≢true, fault_of_sink, fits_join, get_or, inl, inr, is_some, length, length-append, line, Common.lines, lines_join, longest_line, ltb-true, nat_lt, nat_tests, refl, sink_model_of, start, subst, sym, take, take-append-drop, take-append_seam, true, walk, walks_join, ℕ, ◌++◌, ◌+◌, ◌<◌, ◌^◌, ◌∙◌, ◌∷◌, ◌≡◌, ◌≢◌, ◌≤◌, ◌⊎◌}
use Rattle.nap_make.specs.ListMaking.{FeedsLines, HasLineMemory, KeepsPart, PutsEntry}

-- One more entry, after those of earlier lines.

-- a walk over one more entry
pub walk_more : (es : List Entry) (e : Entry) → walk start (es ++ e ∷ []) ≡ after (walk start es) e
unfolding walk
walk_more es e = walks_join start es (e ∷ [])

pub fit_more : (es : List Entry) (e : Entry) → AllFit start es → Fits (walk start es) e → AllFit start (es ++ e ∷ [])
unfolding AllFit
fit_more es e fit fits = (fits_join start es (e ∷ [])).1 (fit, (fits, tt))

pub length_more : (es : List Entry) (e : Entry) → length (es ++ e ∷ []) ≡ length es + 1
length_more es e = length-append es (e ∷ [])

-- the lines of one more entry
pub lines_more : (es : List Entry) (e : Entry) (rest : List ℕ) → lines (es ++ e ∷ []) ++ rest ≡ lines es ++ (line e ++ 10 ∷ rest)
lines_more [] e rest = ap (◌++ rest) (append-nil (line e ++ 10 ∷ [])) ∙ append_assoc (line e) (10 ∷ []) rest
lines_more (x ∷ es) e rest = grind (arith, append_assoc, lines_more es e rest)

pub so_far_more : (p : List ℕ) (es : List Entry) (e : Entry) (rest : List ℕ) → LinesSoFar p es (line e ++ 10 ∷ rest) → IsProper e → Fits (walk start es) e → LinesSoFar p (es ++ e ∷ []) rest
so_far_more p es e rest h proper fits = record {
  proper = All-push IsProper es e h.proper proper;
  fit = fit_more es e h.fit fits;
  parts = h.parts ∙ sym (lines_more es e rest);
}

-- The definition that is open after an entry.

-- the end of a definition leaves none open
ended : (s : State) (e : Entry) → e ≡ Entry.DefEnd → IsSome (after s e).definition → ⊥
ended s e is opens = let none : is_some (after s Entry.DefEnd).definition ≡ true = subst (λ x. IsSome (after s x).definition) is opens in absurd (false≢true none)

pub opened_more : (es : List Entry) (e : Entry) (before now : ℕ) → (IsSome (walk start es).definition → OpenedAt es before) →
    (IsSome (walk start es).definition → now ≡ before) → ((IsSome (walk start es).definition → ⊥) → now ≡ length es + 1) →
    IsSome (walk start (es ++ e ∷ [])).definition → OpenedAt (es ++ e ∷ []) now
opened_more es e before now opened same new opens = by (walk start es).definition refl
  where
    still_open : IsSome (after (walk start es) e).definition
    still_open = subst (λ (s : State). IsSome s.definition) (walk_more es e) opens

    by : (o : Option OpenDefinition) → (walk start es).definition ≡ o → OpenedAt (es ++ e ∷ []) now
    by (Some o) is =
        let some : IsSome (walk start es).definition = ap is_some is in
        let h = opened some in
        record {
          before = h.before;
          opening = h.opening;
          inside = h.inside ++ e ∷ [];
          parts = ap (λ xs. xs ++ e ∷ []) h.parts ∙ append_assoc h.before (h.opening ∷ h.inside) (e ∷ []);
          place = same some ∙ h.place;
          closed = h.closed;
          opens = h.opens;
          unended = All-push (λ x. x ≢ Entry.DefEnd) h.inside e h.unended (λ end. ended (walk start es) e end still_open);
        }
    by None is =
        let none : IsSome (walk start es).definition → ⊥ = λ some. false≢true (sym (ap is_some is) ∙ some) in
        record {
          before = es;
          opening = e;
          inside = [];
          parts = refl;
          place = new none;
          closed = is;
          opens = opens;
          unended = All-nil (λ x. x ≢ Entry.DefEnd);
        }

-- A maker that puts one more entry.

module _ {S : Type 0} (g : Ghosts S) where
  pub put_none : (s : S) (state : State) (opening : ℕ) → g.took s [] s → g.failed s ≡ false → state ≡ start → MakerHasPut g s [] (record { sink = s; state = state; lines = 0; opening = opening })
  unfolding walk AllFit
  put_none s state opening took works is = grind (arith, All-nil, false≢true)

  pub put_more : {s : S} {es : List Entry} {e : Entry} {old : LineMaker S} (new : LineMaker S) → MakerHasPut g s es old → IsProper e → Fits old.state e →
      ((s t u : S) (d e : List Entry) → g.took s d t → g.took t e u → g.took s (d ++ e) u) → g.took old.sink (e ∷ []) new.sink → (g.failed new.sink ≡ true → ⊥) → new.state ≡ after old.state e →
      new.lines ≡ old.lines + 1 → (IsSome old.state.definition → new.opening ≡ old.opening) → ((IsSome old.state.definition → ⊥) → new.opening ≡ new.lines) → MakerHasPut g s (es ++ e ∷ []) new
  put_more {s = s} {es = es} {e = e} {old = old} new holds proper fits more took fails state lines same other =
      let counted : new.lines ≡ length es + 1 = lines ∙ ap (◌+ 1) holds.count in
      record {
        proper = All-push IsProper es e holds.proper proper;
        fit = fit_more es e holds.fit (subst (λ u. Fits u e) holds.state fits);
        kept = record { took = more s old.sink new.sink es (e ∷ []) holds.kept.took took; works = false_from_ne_true (g.failed new.sink) fails };
        state = state ∙ ap (λ u. after u e) holds.state ∙ sym (walk_more es e);
        count = counted ∙ sym (length_more es e);
        opened = opened_more es e old.opening new.opening holds.opened (λ some. same (subst (λ (u : State). IsSome u.definition) (sym holds.state) some))
            (λ none. other (λ some. none (subst (λ (u : State). IsSome u.definition) holds.state some)) ∙ counted);
      }

-- Entries put together, after those of earlier lines.

pub always_ok : {A E Q : Type 0} (r : Result A E) → Q → OnOk r Q
always_ok r is = grind arith

-- an open definition stays open past entries that don't end it
opened_still : (es ds : List Entry) (number : ℕ) → OpenedAt es number → All (λ e. e ≢ Entry.DefEnd) ds → OpenedAt (es ++ ds) number
opened_still es ds number h none = record {
  before = h.before;
  opening = h.opening;
  inside = h.inside ++ ds;
  parts = ap (◌++ ds) h.parts ∙ append_assoc h.before (h.opening ∷ h.inside) ds;
  place = h.place;
  closed = h.closed;
  opens = h.opens;
  unended = All-append (λ x. x ≢ Entry.DefEnd) h.inside ds h.unended none;
}

-- the first of the lines of some entries
pub lines_first : (e : Entry) (es : List Entry) (rest : List ℕ) → lines (e ∷ es) ++ rest ≡ line e ++ 10 ∷ (lines es ++ rest)
lines_first e es rest = grind (arith, append_assoc)

-- the lines of some entries, of which the first are put
first_put : (es ds d tail : List Entry) (q rest : List ℕ) → ds ≡ d ++ tail → All IsProper es → AllFit start es → All IsProper ds → AllFit (walk start es) ds → q ≡ lines es ++ (lines ds ++ rest) → LinesSoFar q (es ++ d) (lines tail ++ rest)
first_put es ds d tail q rest is proper fit all fits parts = record {
  proper = All-append IsProper es d proper (subst (All IsProper) (take-append_seam d tail) (All-take IsProper (length d) (d ++ tail) (subst (All IsProper) is all)));
  fit = (fits_join start es d).1 (fit, ((fits_join (walk start es) d tail).0 (subst (AllFit (walk start es)) is fits)).0);
  parts =
      parts
      ∙ ap (λ xs. lines es ++ (xs ++ rest)) (ap lines is ∙ lines_join d tail)
      ∙ ap (lines es ++◌) (append_assoc (lines d) (lines tail) rest)
      ∙ sym (append_assoc (lines es) (lines d) (lines tail ++ rest))
      ∙ ap (◌++ (lines tail ++ rest)) (sym (lines_join es d));
}

module _ {S : Type 0} {g : Ghosts S} {s : S} {es : List Entry} {old : LineMaker S} (holds : MakerHasPut g s es old) where
  -- entries that end no definition and leave none open were put
  pub puts_all : (ds : List Entry) (new : LineMaker S) → All IsProper ds → AllFit old.state ds → All (λ e. e ≢ Entry.DefEnd) ds → (walk old.state ds).definition ≡ old.state.definition → TookMore (sink_model_of g) →
      g.took old.sink ds new.sink → g.failed new.sink ≡ false → new.state ≡ walk old.state ds → new.lines ≡ old.lines + length ds → new.opening ≡ old.opening → MakerHasPut g s (es ++ ds) new
  puts_all ds new proper fits unended defines more took works state count same =
      let there : walk old.state ds ≡ walk start (es ++ ds) = ap (λ u. walk u ds) holds.state ∙ sym (walks_join start es ds) in
      record {
        proper = All-append IsProper es ds holds.proper proper;
        fit = (fits_join start es ds).1 (holds.fit, subst (λ u. AllFit u ds) holds.state fits);
        kept = record { took = more s old.sink new.sink es ds holds.kept.took took; works = works };
        state = state ∙ there;
        count = count ∙ ap (◌+ length ds) holds.count ∙ sym (length-append es ds);
        opened = λ some.
            let opens : IsSome (walk start es).definition = subst IsSome (sym (ap (λ (u : State). u.definition) there) ∙ defines ∙ ap (λ (u : State). u.definition) holds.state) some in
            subst (OpenedAt (es ++ ds)) (sym same) (opened_still es ds old.opening (holds.opened opens) unended);
      }

  -- some of the entries were put, and not the next one
  pub puts_some : (ds : List Entry) (new : LineMaker S) (n : ℕ) (fault : SinkFault) → TookMore (sink_model_of g) → TookBroke (sink_model_of g) → HaltsAfter (sink_model_of g) ds old.sink new.sink n fault →
      FaultMatchesDevice (sink_model_of g) old.sink new.sink n fault → PutsEntries g s es ds new (Err (fault_of_sink fault))
  puts_some ds new n fault is fits h also = grind (arith, false≢true)

  -- lines whose entries weren't all put make no list
  pub some_stop : {bytes : List ℕ} (ds : List Entry) (rest : List ℕ) (new : LineMaker S) (f : MakeFault) → All IsProper ds → AllFit old.state ds → bytes ≡ lines ds ++ rest → PutsEntries g s es ds new (Err f) → StopsLines g s (lines es ++ bytes) new.sink f
  some_stop {bytes = bytes} ds rest new f proper fits parts puts = by f puts
    where
      there : (more : List ℕ) → (lines es ++ bytes) ++ more ≡ lines es ++ (lines ds ++ (rest ++ more))
      there more = append_assoc (lines es) bytes more ∙ ap (lines es ++◌) (ap (◌++ more) parts ∙ append_assoc (lines ds) rest more)

      so_far : (d tail : List Entry) → ds ≡ d ++ tail → (more : List ℕ) → LinesSoFar ((lines es ++ bytes) ++ more) (es ++ d) (lines tail ++ (rest ++ more))
      so_far d tail is more = first_put es ds d tail ((lines es ++ bytes) ++ more) (rest ++ more) is holds.proper holds.fit proper (subst (λ u. AllFit u ds) holds.state fits) (there more)

      begins : (d tail : List Entry) → ds ≡ d ++ tail → LinesSoFar (lines es ++ bytes) (es ++ d) (lines tail ++ rest)
      begins d tail is = first_put es ds d tail (lines es ++ bytes) rest is holds.proper holds.fit proper (subst (λ u. AllFit u ds) holds.state fits) (ap (lines es ++◌) parts)

      by : (f : MakeFault) → PutsEntries g s es ds new (Err f) → StopsLines g s (lines es ++ bytes) new.sink f
      by MakeFault.Memory (inl h) = record {
        entries = es ++ h.0;
        first = (lines (h.1 ∷ h.2) ++ rest, begins h.0 (h.1 ∷ h.2) h.3);
        why = (
          inl (record {
            entry = h.1;
            rest = lines h.2 ++ rest;
            so_far = subst (LinesSoFar (lines es ++ bytes) (es ++ h.0)) (lines_first h.1 h.2 rest) (begins h.0 (h.1 ∷ h.2) h.3);
            proper = All-head IsProper h.1 h.2 (subst (All IsProper) (drop-append_seam h.0 (h.1 ∷ h.2)) (All-drop IsProper (length h.0) (h.0 ++ h.1 ∷ h.2) (subst (All IsProper) h.3 proper)));
          }),
          h.4,
        );
      }
      by MakeFault.Memory (inr h) = record {
        entries = es;
        first = (bytes, record { proper = holds.proper; fit = holds.fit; parts = refl });
        why = (inr (inr (record { others = ds; first = (lines [] ++ rest, begins ds [] (sym (append-nil ds))); many = h.0 })), h.1);
      }
      by MakeFault.Write h = record {
        entries = es ++ h.0;
        first = (lines (h.1 ∷ h.2) ++ rest, begins h.0 (h.1 ∷ h.2) h.3);
        why = (
          h.1,
          λ more. (
            lines h.2 ++ (rest ++ more),
            subst (λ xs. LinesSoFar ((lines es ++ bytes) ++ more) xs (lines h.2 ++ (rest ++ more))) (sym (append_assoc es h.0 (h.1 ∷ [])))
                (so_far (h.0 ++ h.1 ∷ []) h.2 (h.3 ∙ sym (append_assoc h.0 (h.1 ∷ []) h.2)) more),
          ),
          h.4,
        );
      }
      by _ h = absurd h

  pub none_put : (ds : List Entry) → 2 ^ 64 ≤ old.lines + length ds + 1 → PutsEntries g s es ds old (Err MakeFault.Memory)
  none_put ds many = inr (omega (arith, many, holds.count, length-append es ds), holds.kept)

  -- no further entry was put
  pub none_more : (ds : List Entry) → ds ≡ [] → MakerHasPut g s (es ++ ds) old
  none_more ds is = subst (λ xs. MakerHasPut g s xs old) (sym (ap (es ++◌) is ∙ append-nil es)) holds

module _ {S : Type 0} (g : Ghosts S) (s : S) (es : List Entry) {e : Entry} {bytes : List ℕ} (more : List ℕ) (written : IsWritten IsProper line bytes e) where
  line_first : lines (es ++ e ∷ []) ++ more ≡ lines es ++ (bytes ++ 10 ∷ more)
  line_first = lines_more es e more ∙ ap (λ xs. lines es ++ (xs ++ 10 ∷ more)) (sym written.written)

  -- a line and more lines were taken
  more_taken : (m : LineMaker S) (rest : List ℕ) → TakesLines g s (es ++ e ∷ []) more m rest → TakesLines g s es (bytes ++ 10 ∷ more) m rest
  more_taken m rest takes = grind (arith, append_assoc)

  -- a line was taken, and no more
  pub one_taken : {m : LineMaker S} → MakerHasPut g s (es ++ e ∷ []) m → TakesLines g s es (bytes ++ 10 ∷ more) m more
  one_taken {m = m} holds = more_taken m more (record { more = []; parts = refl; holds = subst (λ xs. MakerHasPut g s xs m) (sym (append-nil (es ++ e ∷ []))) holds })

  pub more_result : {A : Type 0} (rest_of : A → List ℕ) (m : LineMaker S) (r : Result A MakeFault) → MatchResult r (λ rest. TakesLines g s (es ++ e ∷ []) more m (rest_of rest)) (StopsLines g s (lines (es ++ e ∷ []) ++ more) m.sink) →
      MatchResult r (λ rest. TakesLines g s es (bytes ++ 10 ∷ more) m (rest_of rest)) (StopsLines g s (lines es ++ (bytes ++ 10 ∷ more)) m.sink)
  more_result rest_of m r is = grind (arith, more_taken, line_first)

-- Bytes that no line begins with.

-- no LF is inside bytes without one
no_short : (a b c d : List ℕ) → All (λ x. x ≢ 10) a → length c < length a → a ++ b ≡ c ++ 10 ∷ d → ⊥
no_short [] b c d none less is = absurd (omega (arith, less))
no_short (x ∷ a) b [] d none less is = All-head (λ z. z ≢ 10) x a none (cc)
no_short (x ∷ a) b (y ∷ c) d none less is = no_short a b c d (All-tail (λ z. z ≢ 10) x a none) (omega (arith, less)) (cc)

-- more bytes than a line may have, without LF, begin no line
pub long_begins_none : (prefix more : List ℕ) → All (λ x. x ≢ 10) prefix → longest_line < length prefix → BeginsNoLine (prefix ++ more)
long_begins_none prefix more none long e rest proper is = no_short prefix more (line e) rest none (omega (arith, lines_are_bounded e proper, long)) is

-- bytes that are no line, and then LF, begin no line
pub whole_begins_none : (bytes more : List ℕ) → All (λ x. x ≢ 10) bytes → WritesNone IsProper line bytes → BeginsNoLine (bytes ++ 10 ∷ more)
whole_begins_none bytes more none writes e rest proper is = writes e proper (one_cut 10 bytes more (line e) rest none (lines_have_no_ends e proper.in_range) is).0

-- bytes without LF begin no line with LF
pub part_begins_none : (bytes : List ℕ) → All (λ x. x ≢ 10) bytes → BeginsNoLine bytes
part_begins_none bytes none e rest proper is = no_cut 10 bytes (line e) rest none is

-- no entry's line is longer than the longest line
pub no_long_line : (bytes : List ℕ) (e : Entry) → IsWritten IsProper line bytes e → longest_line < length bytes → ⊥
no_long_line bytes e h long = let same = ap length h.written in omega (arith, same, lines_are_bounded e h.fitting, long)

-- The column of more bytes.

not_less : (a b : ℕ) → nat_lt a b ≡ false → b ≤ a
not_less a b test = grind (arith, nat_tests, test)

-- the first of two lists that join to the same bytes begins with the shorter
front_of : (left back m rest : List ℕ) → left ++ back ≡ m ++ rest → length m ≤ length left → (others : List ℕ) × (left ≡ m ++ others) × (rest ≡ others ++ back)
front_of left back [] rest is less = (left, refl, sym is)
front_of [] back (b ∷ m) rest is less = absurd (omega (arith, less))
front_of (a ∷ left) back (b ∷ m) rest is less = grind (arith, front_of left back m rest (ap (drop 1) is) (omega (arith, less)))

-- a place before some bytes is one before those and more
place_goes : (right left back : List ℕ) → (IsEntryLine right → left ≡ [] → ⊥) → IsPlace right left → IsPlace right (left ++ back)
place_goes right left back is fits = grind arith

-- and the other way, if the first bytes are enough to tell
place_comes : (right others back : List ℕ) → (BeginsWithSpace (others ++ back) → BeginsWithSpace others) → (others ++ back ≡ [] → ⊥) → IsPlace right (others ++ back) → IsPlace right others
place_comes right others back is fits h = grind arith

-- the column of bytes is that of more, where what begins a line doesn't reach those
column_goes : (bytes back : List ℕ) (column : ℕ) → (h : TellsColumn bytes column) → (IsEntryLine bytes → ⊥) → ((m : List ℕ) → BeginsLine (h.right ++ m) → (rest : List ℕ) → h.left ++ back ≡ m ++ rest → length m ≤ length h.left) →
    ((m others : List ℕ) → h.left ≡ m ++ others → BeginsLine (h.right ++ m) → BeginsWithSpace (others ++ back) → BeginsWithSpace others) → (back ≡ [] → ⊥) → TellsColumn (bytes ++ back) column
column_goes bytes back column h none reach space some = record {
  right = h.right;
  left = h.left ++ back;
  parts = ap (◌++ back) h.parts ∙ append_assoc h.right h.left back;
  column_is = h.column_is;
  place = place_goes h.right h.left back (λ whole empty. none (subst IsEntryLine (sym (h.parts ∙ ap (h.right ++◌) empty ∙ append-nil h.right)) whole)) h.place;
  begins = h.begins;
  longest = longest;
}
  where
    not_empty : (xs : List ℕ) → xs ++ back ≡ [] → ⊥
    not_empty [] is = some is
    not_empty (x ∷ xs) is = let no : ⊥ = cc in no

    longest : (m rest : List ℕ) → h.left ++ back ≡ m ++ rest → IsPlace (h.right ++ m) rest → BeginsLine (h.right ++ m) → m ≡ []
    longest m rest is place goes =
        let found = front_of h.left back m rest is (reach m goes rest is) in
        h.longest m found.0 found.1 (place_comes (h.right ++ m) found.0 back (space m found.0 found.1 goes) (not_empty found.0) (subst (IsPlace (h.right ++ m)) found.2 place)) goes

-- what begins a line isn't longer than a line
begins_short : (prefix : List ℕ) → BeginsLine prefix → length prefix ≤ longest_line
begins_short prefix h =
    let size : length (line h.entry) ≡ length (prefix ++ h.more) = ap length h.begins in
    omega (arith, size, length-append prefix h.more, lines_are_bounded h.entry h.proper)

-- and has no LF
begins_whole : (prefix : List ℕ) → BeginsLine prefix → All (λ x. x ≢ 10) prefix
begins_whole prefix h =
    let all = subst (All (λ x. x ≢ 10)) h.begins (lines_have_no_ends h.entry h.proper.in_range) in
    subst (All (λ x. x ≢ 10)) (take-append_seam prefix h.more) (All-take (λ x. x ≢ 10) (length prefix) (prefix ++ h.more) all)

-- the column of more bytes than a line may have is that of whatever they begin
pub column_long : (prefix more : List ℕ) (column : ℕ) → longest_line < length prefix → TellsColumn prefix column → TellsColumn (prefix ++ more) column
column_long prefix [] column long h = subst (λ s. TellsColumn s column) (sym (append-nil prefix)) h
column_long prefix (b ∷ more) column long h = column_goes prefix (b ∷ more) column h (λ whole. no_long_line prefix whole.0 whole.1 long) (λ m goes rest is. omega (arith, shorter m goes)) space (λ is. let no : ⊥ = cc in no)
  where
    shorter : (m : List ℕ) → BeginsLine (h.right ++ m) → length m < length h.left
    shorter m goes =
        let size : length prefix ≡ length (h.right ++ h.left) = ap length h.parts in
        omega (arith, size, length-append h.right h.left, length-append h.right m, begins_short (h.right ++ m) goes, long)

    space : (m others : List ℕ) → h.left ≡ m ++ others → BeginsLine (h.right ++ m) → BeginsWithSpace (others ++ b ∷ more) → BeginsWithSpace others
    space m [] is goes begins = let size : length h.left ≡ length (m ++ []) = ap length is in absurd (omega (arith, size, length-append m [], shorter m goes))
    space m (x ∷ others) is goes begins = (others, ap (◌∷ others) (ap (λ s. get_or s 0 0) begins.1))

-- the column of a line is that of the line with LF, and what follows
pub column_ended : (bytes more : List ℕ) (column : ℕ) → All (λ x. x ≢ 10) bytes → WritesNone IsProper line bytes → TellsColumn bytes column → TellsColumn (bytes ++ 10 ∷ more) column
column_ended bytes more column none writes h = column_goes bytes (10 ∷ more) column h (λ whole. writes whole.0 whole.1.fitting whole.1.written) reach space (λ is. let no : ⊥ = cc in no)
  where
    by_length : (m rest : List ℕ) → BeginsLine (h.right ++ m) → (h.right ++ m) ++ rest ≡ bytes ++ 10 ∷ more → (t : Bool) → nat_lt (length bytes) (length (h.right ++ m)) ≡ t → length (h.right ++ m) ≤ length bytes
    by_length m rest goes is true test = absurd (no_short (h.right ++ m) rest bytes more (begins_whole (h.right ++ m) goes) (ltb-true _ _ test) is)
    by_length m rest goes is false test = not_less _ _ test

    reach : (m : List ℕ) → BeginsLine (h.right ++ m) → (rest : List ℕ) → h.left ++ 10 ∷ more ≡ m ++ rest → length m ≤ length h.left
    reach m goes rest is =
        let whole : (h.right ++ m) ++ rest ≡ bytes ++ 10 ∷ more = append_assoc h.right m rest ∙ ap (h.right ++◌) (sym is) ∙ sym (append_assoc h.right h.left (10 ∷ more)) ∙ ap (λ s. s ++ 10 ∷ more) (sym h.parts) in
        let size : length bytes ≡ length (h.right ++ h.left) = ap length h.parts in
        omega (arith, size, length-append h.right h.left, length-append h.right m, by_length m rest goes whole (nat_lt (length bytes) (length (h.right ++ m))) refl)

    space : (m others : List ℕ) → h.left ≡ m ++ others → BeginsLine (h.right ++ m) → BeginsWithSpace (others ++ 10 ∷ more) → BeginsWithSpace others
    space m [] is goes begins = let first : 10 ≡ 32 = ap (λ s. get_or s 0 0) begins.1 in absurd (omega (arith, first))
    space m (x ∷ others) is goes begins = (others, ap (◌∷ others) (ap (λ s. get_or s 0 0) begins.1))

-- a complete line without LF has its fault in the column after it
pub column_after : (bytes : List ℕ) (e : Entry) → IsWritten IsProper line bytes e → TellsColumn bytes (length bytes + 1)
column_after bytes e h = record {
  right = bytes;
  left = [];
  parts = sym (append-nil bytes);
  column_is = refl;
  place = inr (inr (inr ((e, h), refl)));
  begins = record { entry = e; more = []; proper = h.fitting; begins = sym h.written ∙ sym (append-nil bytes) };
  longest = λ more rest is place goes. empty more rest is;
}
  where
    empty : (more rest : List ℕ) → [] ≡ more ++ rest → more ≡ []
    empty [] rest is = refl
    empty (b ∷ more) rest is = absurd (let no : ⊥ = cc in no)

-- A fault has one column.

pub one_column : (bytes : List ℕ) (c d : ℕ) → TellsColumn bytes c → TellsColumn bytes d → c ≡ d
one_column bytes c d one two = by (nat_lt (length one.right) (length two.right)) refl (nat_lt (length two.right) (length one.right)) refl
  where
    further : (c d : ℕ) (one : TellsColumn bytes c) (two : TellsColumn bytes d) → length one.right < length two.right → ⊥
    further c d one two less =
        let found = front_of two.right two.left one.right one.left (sym two.parts ∙ one.parts) (omega (arith, less)) in
        let none = one.longest found.0 two.left found.2 (subst (λ s. IsPlace s two.left) found.1 two.place) (subst BeginsLine found.1 two.begins) in
        let size : length two.right ≡ length (one.right ++ found.0) = ap length found.1 in
        let empty : length found.0 ≡ 0 = ap length none in
        omega (arith, size, empty, length-append one.right found.0, less)

    by : (t : Bool) → nat_lt (length one.right) (length two.right) ≡ t → (u : Bool) → nat_lt (length two.right) (length one.right) ≡ u → c ≡ d
    by true less u other = absurd (further c d one two (ltb-true _ _ less))
    by false less true other = absurd (further d c two one (ltb-true _ _ other))
    by false less false other = omega (arith, not_less _ _ less, not_less _ _ other, one.column_is, two.column_is)

-- Lines after those of the entries taken.

-- a line with LF was refused, all of which is this
abbrev pub RefusesLine : {S : Type 0} → Ghosts S → S → List Entry → List ℕ → LineMaker S → MakeFault → Type 0
RefusesLine g s es bytes m (MakeFault.Line number column) = (number ≡ length es + 1) × ((more : List ℕ) → BeginsNoLine (bytes ++ 10 ∷ more) × TellsColumn (bytes ++ 10 ∷ more) column) × SinkTook g s es m.sink
RefusesLine g s es bytes m MakeFault.Memory = (IsEntryLine bytes ⊎ (2 ^ 64 ≤ length es + 1)) × SinkTook g s es m.sink
RefusesLine g s es bytes m fault = (e : Entry) × IsWritten IsProper line bytes e × PutsEntry g s es e m (Err fault)

module _ {S : Type 0} (g : Ghosts S) where
  -- a line that is too long
  keeps_long : (s : S) (es : List Entry) (m : LineMaker S) (part bytes prefix more : List ℕ) (f : MakeFault) → part ++ bytes ≡ prefix ++ more → All (λ x. x ≢ 10) prefix → longest_line < length prefix →
      MakerHasPut g s es m → IsUnendedLine es prefix f → KeepsPart g s es part bytes m f
  keeps_long s es m part bytes prefix more f is fits h also same = grind (arith, length-append, append_assoc, long_begins_none, column_long)

  -- at most one byte more than a line may have is kept
  pub keeps_prefix : {s : S} {es : List Entry} {m : LineMaker S} {prefix : List ℕ} (part bytes : List ℕ) (kept : ℕ) (f : MakeFault) → prefix ≡ part ++ take kept bytes → All (λ x. x ≢ 10) part → All (λ x. x ≢ 10) bytes →
      longest_line < length prefix → MakerHasPut g s es m → IsUnendedLine es prefix f → KeepsPart g s es part bytes m f
  keeps_prefix {s = s} {es = es} {m = m} {prefix = prefix} part bytes kept f is none also long holds h =
      keeps_long s es m part bytes prefix (drop kept bytes) f
      (sym (ap (◌++ drop kept bytes) is ∙ append_assoc part (take kept bytes) (drop kept bytes) ∙ ap (part ++◌) (take-append-drop kept bytes)))
      (subst (All (λ x. x ≢ 10)) (sym is) (All-append (λ x. x ≢ 10) part (take kept bytes) none (All-take (λ x. x ≢ 10) kept bytes also))) long holds h

  -- a line that was refused before its end
  pub part_refused : (s : S) (es : List Entry) (part bytes : List ℕ) (m : LineMaker S) (f : MakeFault) → part ≢ [] → KeepsPart g s es part bytes m f → RefusesLine g s es (part ++ bytes) m f
  part_refused s es part bytes m f some is = grind arith

  -- the entry of a line wasn't put
  pub entry_refused : (s : S) (es : List Entry) (bytes : List ℕ) (e : Entry) (m : LineMaker S) (f : MakeFault) → IsWritten IsProper line bytes e → PutsEntry g s es e m (Err f) → RefusesLine g s es bytes m f
  entry_refused s es bytes e m f is fits = grind arith

  -- the bytes after the last LF of a piece are kept
  pub ready_last : {old : LineReader S} (new : LineReader S) (rest : List ℕ) (r : Result (Unit {0}) MakeFault) → IsReady g old → All (λ b. b ≢ 10) rest → OnOk r (new.part.items ≡ old.part.items ++ rest) →
      OnOk r (new.maker ≡ old.maker) → OnOk r (length new.part.items ≤ longest_line) → OnOk r (HasLineMemory new.part) → OnOk r (IsReady g new)
  ready_last {old = old} new rest (Ok done) ready none part maker short memory = record {
    agrees = subst (λ (m : LineMaker S). g.state m.sink ≡ m.state) (sym maker) ready.agrees;
    whole = subst (All (λ b. b ≢ 10)) (sym part) (All-append (λ b. b ≢ 10) old.part.items rest ready.whole none);
    short = short;
    memory = memory;
  }
  ready_last new rest (Err f) ready none part maker short memory = tt

  -- after the end of a line
  pub ended_ready : {r : LineReader S} → r.part.items ≡ [] → g.state r.maker.sink ≡ r.maker.state → IsReady g r
  ended_ready empty agrees = grind (arith, All-nil)

  -- The bytes p were read up to a rest: the lines of these entries, and what is kept of one more.
  pub record HasReadTo (s : S) (p : List ℕ) (r : LineReader S) (rest : List ℕ) : Type 0 where
    pub entries : List Entry
    pub holds : MakerHasPut g s entries r.maker
    pub parts : p ≡ lines entries ++ (r.part.items ++ rest)

module _ {S : Type 0} {g : Ghosts S} {s : S} {es : List Entry} {old : LineMaker S} (holds : MakerHasPut g s es old) where
  so_far : (q rest : List ℕ) → q ≡ lines es ++ rest → LinesSoFar q es rest
  so_far q rest parts = record { proper = holds.proper; fit = holds.fit; parts = parts }

  -- the bytes read, and more bytes
  with_more : (q rest more : List ℕ) → q ≡ lines es ++ rest → q ++ more ≡ lines es ++ (rest ++ more)
  with_more q rest more parts = ap (◌++ more) parts ∙ append_assoc (lines es) rest more

  -- lines after those of these entries make no list
  stops : (q rest : List ℕ) (m : LineMaker S) (f : MakeFault) → q ≡ lines es ++ rest → StopsLinesBy g s q es m.sink f → StopsLines g s q m.sink f
  stops q rest m f parts why = record { entries = es; first = (rest, so_far q rest parts); why = why }

  -- a refused line with LF makes no list
  pub refused_stops : {q : List ℕ} (bytes rest : List ℕ) (m : LineMaker S) (f : MakeFault) → q ≡ lines es ++ (bytes ++ 10 ∷ rest) → RefusesLine g s es bytes m f → StopsLines g s q m.sink f
  refused_stops {q = q} bytes rest m f parts h = stops q (bytes ++ 10 ∷ rest) m f parts (by f h)
    where
      -- the lines read, and more bytes
      after_line : (more : List ℕ) → LinesSoFar (q ++ more) es (bytes ++ 10 ∷ (rest ++ more))
      after_line more = so_far (q ++ more) (bytes ++ 10 ∷ (rest ++ more)) (with_more q (bytes ++ 10 ∷ rest) more parts ∙ ap (lines es ++◌) (append_assoc bytes (10 ∷ rest) more))

      after_entry : (e : Entry) (more : List ℕ) → bytes ≡ line e → LinesSoFar (q ++ more) es (line e ++ 10 ∷ (rest ++ more))
      after_entry e more is = subst (λ xs. LinesSoFar (q ++ more) es (xs ++ 10 ∷ (rest ++ more))) is (after_line more)

      by : (f : MakeFault) → RefusesLine g s es bytes m f → StopsLinesBy g s q es m.sink f
      by (MakeFault.Line number column) h = (
        λ more. record {
          rest = bytes ++ 10 ∷ (rest ++ more);
          so_far = after_line more;
          place = h.0;
          some = omega (arith, length-append bytes (10 ∷ (rest ++ more)));
          none = (h.1 (rest ++ more)).0;
          begins = (h.1 (rest ++ more)).1;
        },
        h.2,
      )
      by (MakeFault.Misfit number) h = (
        λ more. record { entry = h.0; rest = rest ++ more; so_far = after_entry h.0 more h.1.written; place = h.2.0; proper = h.1.fitting; misfit = h.2.1 },
        h.2.2,
      )
      by (MakeFault.Open number opening) h = absurd h.2
      by MakeFault.Memory (inl has, kept) = (
        inl (record {
          entry = has.0;
          rest = rest;
          so_far = so_far q (line has.0 ++ 10 ∷ rest) (parts ∙ ap (λ xs. lines es ++ (xs ++ 10 ∷ rest)) has.1.written);
          proper = has.1.fitting;
        }),
        kept,
      )
      by MakeFault.Memory (inr many, kept) = (
        inr (inr (record {
          others = [];
          first = (bytes ++ 10 ∷ rest, subst (λ xs. LinesSoFar q xs (bytes ++ 10 ∷ rest)) (sym (append-nil es)) (so_far q (bytes ++ 10 ∷ rest) parts));
          many = subst (λ xs. 2 ^ 64 ≤ length xs + 1) (sym (append-nil es)) many;
        })),
        kept,
      )
      by MakeFault.Write h = (h.0, λ more. (rest ++ more, so_far_more (q ++ more) es h.0 (rest ++ more) (after_entry h.0 more h.1.written) h.1.fitting h.2.0), h.2.1)

  -- a line that no entry has makes no list
  pub line_stops : (bytes rest : List ℕ) (m : LineMaker S) (number column : ℕ) → All (λ x. x ≢ 10) bytes → number ≡ length es + 1 → WritesNone IsProper line bytes × TellsColumn bytes column → SinkTook g s es m.sink →
      StopsLines g s (lines es ++ (bytes ++ 10 ∷ rest)) m.sink (MakeFault.Line number column)
  line_stops bytes rest m number column none place h kept =
      refused_stops bytes rest m (MakeFault.Line number column) refl
      (place, λ more. (whole_begins_none bytes more none h.0, column_ended bytes more column none h.0 h.1), kept)

  -- a refused part of a line makes no list
  pub keep_stops : {q : List ℕ} (part bytes : List ℕ) (m : LineMaker S) (f : MakeFault) → q ≡ lines es ++ (part ++ bytes) → All (λ b. b ≢ 10) (part ++ bytes) → KeepsPart g s es part bytes m f → StopsLines g s q m.sink f
  keep_stops {q = q} part bytes m (MakeFault.Line number column) parts whole h =
      stops q (part ++ bytes) m (MakeFault.Line number column) parts (
        λ more. record {
          rest = (part ++ bytes) ++ more;
          so_far = so_far (q ++ more) ((part ++ bytes) ++ more) (with_more q (part ++ bytes) more parts);
          place = h.0;
          some = omega (arith, h.1, length-append (part ++ bytes) more);
          none = (h.2 more).0;
          begins = (h.2 more).1;
        },
        h.3,
      )
  keep_stops {q = q} part bytes m MakeFault.Memory parts whole h =
      stops q (part ++ bytes) m MakeFault.Memory parts (inr (inl (record { rest = part ++ bytes; so_far = so_far q (part ++ bytes) parts; some = h.0; none = whole })), h.2)
  keep_stops part bytes m _ parts whole h = absurd h

  -- the lines end without LF
  pub finishes_cut : {p : List ℕ} (bytes : List ℕ) (f : MakeFault) → p ≡ lines es ++ bytes → All (λ x. x ≢ 10) bytes → 0 < length bytes → IsUnendedLine es bytes f → Finishes g s p old.sink (Err f)
  finishes_cut {p = p} bytes (MakeFault.Line number column) parts none some h = record {
    entries = es;
    first = (bytes, so_far p bytes parts);
    own = λ is. let bad : ⊥ = cc in bad;
    why = record { rest = bytes; so_far = so_far p bytes parts; place = h.0; some = some; none = part_begins_none bytes none; begins = h.1 };
    kept = holds.kept;
  }
  finishes_cut {p = p} bytes MakeFault.Memory parts none some h = record {
    entries = es;
    first = (bytes, so_far p bytes parts);
    own = λ is. let bad : ⊥ = cc in bad;
    why = inr (inl (record { rest = bytes; so_far = so_far p bytes parts; some = some; none = none }));
    kept = holds.kept;
  }
  finishes_cut bytes _ parts none some h = absurd h

  -- the lines end outside a definition
  pub finishes_list : {p : List ℕ} → p ≡ lines es ++ [] → old.state.definition ≡ None → Finishes g s p old.sink (Ok old.lines)
  finishes_list {p = p} parts closed = (
    record {
      entries = es;
      so_far = so_far p [] parts;
      are = record {
        legal = record { fit = holds.fit; ended = subst (λ (u : State). u.definition ≡ None) holds.state closed };
        in_range = All-weaker IsProper InRange (λ e proper. proper.in_range) es holds.proper;
        lines_are = parts ∙ append-nil (lines es);
      };
      kept = holds.kept;
    },
    holds.count,
  )

module _ {S : Type 0} {g : Ghosts S} where
  pub read_before : {s : S} {p piece : List ℕ} {r : LineReader S} → HasReadLines g s p r → HasReadTo g s (p ++ piece) r piece
  read_before {piece = piece} {r = r} h = record { entries = h.entries; holds = h.holds; parts = ap (◌++ piece) h.parts ∙ append_assoc (lines h.entries) r.part.items piece }

  -- the bytes after the last LF of a piece were read, or make no list
  pub read_last : {s : S} {p rest : List ℕ} {old : LineReader S} (new : LineReader S) (r : Result (Unit {0}) MakeFault) → HasReadTo g s p old rest → OnOk r (new.part.items ≡ old.part.items ++ rest) →
      OnOk r (new.maker ≡ old.maker) → All (λ b. b ≢ 10) (old.part.items ++ rest) → IfErr r (λ f. (s : S) (es : List Entry) → MakerHasPut g s es old.maker → KeepsPart g s es old.part.items rest new.maker f) → FeedsLines g s p new r
  read_last new (Ok ok) h part maker whole keeps = grind arith
  read_last {rest = rest} {old = old} new (Err f) h part maker whole keeps = keep_stops h.holds old.part.items rest new.maker f h.parts whole (keeps _ h.entries h.holds)

  -- the next lines of a piece
  pub next_parts : {s : S} {p : List ℕ} {r : LineReader S} (prefix more : List ℕ) (h : HasReadTo g s p r (prefix ++ 10 ∷ more)) → p ≡ lines h.entries ++ ((r.part.items ++ prefix) ++ 10 ∷ more)
  next_parts {r = r} prefix more h = h.parts ∙ ap (lines h.entries ++◌) (sym (append_assoc r.part.items prefix (10 ∷ more)))

  pub read_more : {s : S} {p rest : List ℕ} {old new : LineReader S} (prefix more : List ℕ) (h : HasReadTo g s p old (prefix ++ 10 ∷ more)) → TakesLines g s h.entries ((old.part.items ++ prefix) ++ 10 ∷ more) new.maker rest →
      new.part.items ≡ [] → HasReadTo g s p new rest
  read_more {rest = rest} prefix more h takes empty = record {
    entries = h.entries ++ takes.more;
    holds = takes.holds;
    parts =
        next_parts prefix more h
        ∙ ap (lines h.entries ++◌) takes.parts
        ∙ sym (append_assoc (lines h.entries) (lines takes.more) rest)
        ∙ ap (◌++ rest) (sym (lines_join h.entries takes.more))
        ∙ ap (λ xs. lines (h.entries ++ takes.more) ++ (xs ++ rest)) (sym empty);
  }
