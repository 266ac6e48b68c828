-- The bytes that a conversion has written when it ends.

use Rattle.nap_canon.proofs.{AnswersBy, Appends, Appends-kept, Bool, BreaksAmong, BreaksInRun, Broke, Canonical, Cause, Common.text, Concludes, Consumes, Consumes-nil, ConvertFault, Converts, EndsOutput, Entry, Err, FeedFault, Feeds, FlushedOnce, Form, Ghosts, Grows, HasRead, IsCutOff, IsKnown, IsPrefixOf, IsReadWhole, IsTaken, Keeps, LacksWithin, LastRead, List, None, NoneFailed, Ok, Outcome, Reader, Reading, Refusal, RefusesBy, Result, Sends, Sinks.first_of_text, Sinks.header_sent, Sinks.sink_writes_text, Some, StartsText, State, StopsAtOnce, TextEnd, Texts.text_of_entries, Took, TookPrefix, Two, WantsSome, Writes, [], after, answer_of, ap, append-nil, append_assoc, arith, begun, begun_comes_first, budget_of, cause_of, count_of, device, drop, end_breaks_among, ended_by, entry_bytes_after, entry_pieces, false, false≢true, fed_breaks_among, flush_count, grows_more, header, inl, inr, left_of, length, list_of, means, memory, more_bytes_keep_entries, pieces, pieces_bytes, pieces_bytes-append, reading, refl, refusal_of, sending, sending_of, sink_of, start, stream, subst, sym, take, take-append-drop, text_end_after, text_end_after_header, true, walk, ℕ, ◌++◌, ◌∙◌, ◌∷◌, ◌≡◌, ◌≢◌, ◌⊎◌}
use Rattle.nap_list.specs.declared.device.Outlet as outlet
use Rattle.nap_list.specs.declared.device.Inlet as inlet

-- The bytes that a conversion wrote are a prefix of the text, and all of it if all was read.

-- prefixes

pub prefix_refl : {A : Type 0} (xs : List A) → IsPrefixOf xs xs
prefix_refl xs = ([], sym (append-nil xs))

prefix_trans : {A : Type 0} (xs ys zs : List A) → IsPrefixOf xs ys → IsPrefixOf ys zs → IsPrefixOf xs zs
prefix_trans {A} xs ys zs h k = (h.0 ++ k.0, k.1 ∙ ap (λ (prefix : List A). prefix ++ k.0) h.1 ∙ append_assoc xs h.0 k.0)

-- the text of the first entries is a prefix of the text of all
text_prefix : (d e : List Entry) → IsPrefixOf d e → IsPrefixOf (text d) (text e)
text_prefix d e h = (pieces_bytes (text_end_after text_end_after_header (pieces Two start d)) (pieces Two (walk start d) h.0), ap text h.1 ∙ text_of_entries Two d h.0)

module _ {O : Type 0} (o : outlet.Ghosts O) (w : O) (s : Canonical O) (begins : StartsText o w s) (works : o.failed s.outlet ≡ false) where
  -- the text of the entries that a sink took was written
  took_text : (t : Canonical O) (d : List Entry) → Took o s d t → Grows (sending o w 0) (text d) (sending_of o t)
  took_text t d h = (sink_writes_text o w s t d begins works h).grows

  -- The bytes of a sink that failed during an entry: the text of the entries before, and a part of its bytes.
  abbrev broke_bytes : (t : Canonical O) (d : List Entry) (e : Entry) → Broke o s d e t → List ℕ
  broke_bytes t d e h = text d ++ take h.part (entry_bytes_after s d e)

  broke_text : (t : Canonical O) (d : List Entry) (e : Entry) (h : Broke o s d e t) → Grows (sending o w 0) (broke_bytes t d e h) (sending_of o t)
  broke_text t d e h = grind (arith, header_sent, first_of_text, append_assoc, grows_more)

  -- those bytes are a prefix of the text of any list that continues so
  broke_prefix : (t : Canonical O) (d : List Entry) (e : Entry) (rest : List Entry) (h : Broke o s d e t) → IsPrefixOf (broke_bytes t d e h) (text (d ++ e ∷ rest))
  unfolding pieces
  broke_prefix t d e rest h =
      let u = walk start d in
      let text_end = text_end_after text_end_after_header (pieces Two start d) in
      let one = entry_pieces Two u e in
      let next_bytes : entry_bytes_after s d e ≡ pieces_bytes text_end one =
      ap (λ (f : Form). pieces_bytes (text_end_after s.text_end (pieces f s.state d)) (entry_pieces f (walk s.state d) e)) begins.form_is
      ∙ ap (λ (t : TextEnd). pieces_bytes (text_end_after t (pieces Two s.state d)) (entry_pieces Two (walk s.state d) e)) begins.text_end
      ∙ ap (λ (v : State). pieces_bytes (text_end_after text_end_after_header (pieces Two v d)) (entry_pieces Two (walk v d) e)) begins.state in
      let later = pieces_bytes (text_end_after text_end one) (pieces Two (after u e) rest) in
      let more : pieces_bytes text_end (pieces Two u (e ∷ rest)) ≡ entry_bytes_after s d e ++ later =
      pieces_bytes-append text_end one (pieces Two (after u e) rest) ∙ ap (λ (bs : List ℕ). bs ++ later) (sym next_bytes) in
      let parts : entry_bytes_after s d e ≡ take h.part (entry_bytes_after s d e) ++ drop h.part (entry_bytes_after s d e) = sym (take-append-drop h.part (entry_bytes_after s d e)) in (
        drop h.part (entry_bytes_after s d e) ++ later,
        text_of_entries Two d (e ∷ rest)
            ∙ ap (λ (bs : List ℕ). text d ++ bs) (more ∙ ap (λ (bs : List ℕ). bs ++ later) parts ∙ append_assoc (take h.part (entry_bytes_after s d e)) (drop h.part (entry_bytes_after s d e)) later)
            ∙ sym (append_assoc (text d) (take h.part (entry_bytes_after s d e)) (drop h.part (entry_bytes_after s d e) ++ later)),
      )

  -- A conversion that read the bytes p.
  module _ (budget : ℕ) (p : List ℕ) (seen : Reading) (before : List ℕ) (known_first : IsPrefixOf (begun budget before).entries (begun budget p).entries) where
    -- The bytes written are a prefix of the text, and come after the text of the entries known before the last read.
    pub record WentOut (t : Canonical O) (q : List ℕ) : Type 0 where
      pub grows : Grows (sending o w 0) q (sending_of o t)
      pub prefix : IsPrefixOf q (text (list_of budget p))
      pub left : IsReadWhole seen p ⊎ IsPrefixOf q (text (begun budget p).entries)
      pub written : IsPrefixOf (text (begun budget before).entries) q

    -- the answer and the bytes of a conversion that left this sink
    abbrev pub Leaves : Canonical O → Result (Unit {0}) FeedFault → Type 0
    Leaves t fed = (q : List ℕ) × WentOut t q × (o.failed t.outlet ≡ false → Converts budget p seen q false (answer_of t.written fed))

    counts : (t : Canonical O) (q : List ℕ) → Grows (sending o w 0) q (sending_of o t) → t.written ≡ count_of q
    counts t q h = omega (arith, h.count)

    -- the output as it is given back
    pub concluded : (t : Canonical O) (fed : Result (Unit {0}) FeedFault) (u : O) (answer : Result ℕ ConvertFault) → Leaves t fed → Keeps (o.taken t.outlet) (o.taken u) →
        (o.failed t.outlet ≡ true → o.failed u ≡ true) → Concludes t.written fed (o.failed u) answer →
        (q : List ℕ) × Appends (o.taken w) (o.taken u) q × Converts budget p seen q (o.failed u) answer × IsPrefixOf (text (begun budget before).entries) q
        × Writes (sending o w 0) (sending_of o t)
    concluded t fed u answer (q, out, right) keeps fails ends = (q, Appends-kept _ _ _ q out.grows.taken keeps, at (o.failed u) refl ends, out.written, out.grows.writes)
      where
        works_on : (b : Bool) → o.failed t.outlet ≡ b → o.failed u ≡ false → b ≡ false
        works_on b h h2 = grind arith

        at : (failed : Bool) → o.failed u ≡ failed → Concludes t.written fed failed answer → Converts budget p seen q failed answer
        at false is h = rw h (right (works_on (o.failed t.outlet) refl is))
        at true is h = rw h (counts t q out.grows, record { prefix = out.prefix; left = out.left })

    -- the sink took this list, which is all that was read
    took_all : (t : Canonical O) (fed : Result (Unit {0}) FeedFault) (d : List Entry) → Took o s d t → IsPrefixOf d (list_of budget p) →
        IsReadWhole seen p ⊎ IsPrefixOf (text d) (text (begun budget p).entries) → IsPrefixOf (begun budget before).entries d →
        (t.written ≡ count_of (text d) → Converts budget p seen (text d) false (answer_of t.written fed)) → Leaves t fed
    took_all t fed d took all left known right = grind (arith, took_text, text_prefix, counts)

    known_in_whole : IsPrefixOf (begun budget before).entries (list_of budget p)
    known_in_whole = prefix_trans (begun budget before).entries (begun budget p).entries (list_of budget p) known_first (begun_comes_first budget p)

    -- all was read and accepted
    pub leaves_whole : (t : Canonical O) → IsReadWhole seen p → (means budget p).refusal ≡ None → Took o s (list_of budget p) t → Leaves t (Ok tt)
    leaves_whole t whole accepted took =
        took_all t (Ok tt) (list_of budget p) took (prefix_refl (list_of budget p)) (inl whole) known_in_whole
        (λ count. (count, record { read = whole; canonical = record { accepted = accepted; text_is = refl } }))

    -- the stream is refused
    pub leaves_refused : (t : Canonical O) (r : Refusal) → NoneFailed seen → IsReadWhole seen p ⊎ ((begun budget p).refusal ≡ Some r) →
        IsReadWhole seen p ⊎ IsPrefixOf (text (list_of budget p)) (text (begun budget p).entries) → cause_of r.fault ≡ stream →
        (means budget p).refusal ≡ Some r → Took o s (list_of budget p) t → Leaves t (Err (FeedFault.Refused r))
    leaves_refused t r none_failed left out own refused took =
        took_all t (Err (FeedFault.Refused r)) (list_of budget p) took (prefix_refl (list_of budget p)) out known_in_whole (λ count. (
          count,
          subst (RefusesBy budget p seen (text (list_of budget p)) r) (sym own)
              (record { none_failed = none_failed; refused = refused; text = refl; left = left }),
        ))

    -- the input failed
    pub leaves_cut : (t : Canonical O) → IsCutOff seen p → (begun budget p).refusal ≡ None → Took o s (begun budget p).entries t → Leaves t (Err FeedFault.Read)
    leaves_cut t cut going took =
        let d = (begun budget p).entries in
        took_all t (Err FeedFault.Read) d took (begun_comes_first budget p) (inr (prefix_refl (text d))) known_first
        (λ count. (count, record { cut_off = cut; going = going; text = refl }))

    -- Reading ended without a refusal: memory ran out, or a write failed.
    module _ (g : Ghosts (Canonical O)) (took_is : (t : Canonical O) (d : List Entry) → g.took s d t → Took o s d t)
        (broke_is : (t : Canonical O) (d : List Entry) (e : Entry) → g.broke s d e t → Broke o s d e t) (failed_is : g.failed s ≡ o.failed s.outlet)
        (wants_none : (d : List Entry) → g.wants s d → ⊥) (t : Canonical O) (r : Refusal) (known : List Entry) (end : Outcome) (among : BreaksAmong g s budget p known end t r) (none_failed : NoneFailed seen)
        (first : IsPrefixOf (begun budget before).entries known) (in_whole : IsPrefixOf end.entries (list_of budget p))
        (left : (q : List ℕ) → IsPrefixOf q (text end.entries) → IsReadWhole seen p ⊎ IsPrefixOf q (text (begun budget p).entries)) where
      -- the sink itself takes no memory
      own : LacksWithin budget p r.place ⊎ WantsSome g s end.entries → LacksWithin budget p r.place
      own h = grind arith

      lacks : cause_of r.fault ≡ memory → TookPrefix g s known among.from.more t memory → Leaves t (Err (FeedFault.Refused r))
      lacks is (taken, rest, parts, took) =
          let d = known ++ taken in
          let d_first : IsPrefixOf d end.entries = (rest, among.from.adds ∙ ap (λ (es : List Entry). known ++ es) parts ∙ sym (append_assoc known taken rest)) in
          let d_whole = prefix_trans d end.entries (list_of budget p) d_first in_whole in
          took_all t (Err (FeedFault.Refused r)) d (took_is t d took) d_whole (left (text d) (text_prefix d end.entries d_first))
          (prefix_trans (begun budget before).entries known d first (taken, refl)) (λ count. (
            count,
            subst (RefusesBy budget p seen (text d) r) (sym is)
                (record { none_failed = none_failed; place = own (among.wants is); taken = d; prefix = d_whole; text = refl }),
          ))

      breaks : TookPrefix g s known among.from.more t device → Leaves t (Err (FeedFault.Refused r))
      breaks (inl (failed, part)) = let bad = sym works ∙ (sym failed_is ∙ failed) in cc
      breaks (inr (taken, next, rest, parts, broke)) =
          let d = known ++ taken in
          let h = broke_is t d next broke in
          let q = broke_bytes t d next h in
          let all : end.entries ≡ d ++ next ∷ rest = among.from.adds ∙ ap (λ (es : List Entry). known ++ es) parts ∙ sym (append_assoc known taken (next ∷ rest)) in
          let q_first : IsPrefixOf q (text end.entries) = subst (λ (es : List Entry). IsPrefixOf q (text es)) (sym all) (broke_prefix t d next rest h) in (
            q,
            record {
              grows = broke_text t d next h;
              prefix = prefix_trans q (text end.entries) (text (list_of budget p)) q_first (text_prefix end.entries (list_of budget p) in_whole);
              left = left q q_first;
              written = prefix_trans (text (begun budget before).entries) (text d) q
                  (text_prefix (begun budget before).entries d (prefix_trans (begun budget before).entries known d first (taken, refl)))
                  (take h.part (entry_bytes_after s d next), refl);
            },
            λ whole. let bad = sym h.failed ∙ whole in cc,
          )

      at : (cause : Cause) → cause_of r.fault ≡ cause → cause ≢ stream → TookPrefix g s known among.from.more t cause → Leaves t (Err (FeedFault.Refused r))
      at stream is broke part = absurd part
      at memory is broke part = lacks is part
      at device is broke part = breaks part

      pub leaves_broken : cause_of r.fault ≢ stream → Leaves t (Err (FeedFault.Refused r))
      leaves_broken broke = at (cause_of r.fault) refl broke among.from.part

-- The answer of a conversion, by the state of its reader.

-- An output that was written to the end is flushed once if no write failed.

module _ {O : Type 0} (o : outlet.Ghosts O) (law : (x : O) → o.write_failed x ≡ true → o.failed x ≡ true) (w : O) (works : o.failed w ≡ false) where
  unfailed : o.write_failed w ≡ false
  unfailed = grind (arith, false≢true)

  pub flushed_once : (t : Canonical O) (u : O) → Writes (sending o w 0) (sending_of o t) → o.flushes u ≡ flush_count (o.failed t.outlet) (o.flushes t.outlet) →
      o.write_failed u ≡ o.write_failed t.outlet → FlushedOnce o w u
  flushed_once t u wrote flushes kept = grind (arith, unfailed)

-- what a conversion ensures of the bytes that it read and wrote
abbrev pub Converted : {I O : Type 0} → inlet.Ghosts I → outlet.Ghosts O → ℕ → I → I → O → O → Result ℕ ConvertFault → Type 0
Converted i o budget initial final w u answer =
    (p : List ℕ) × (q : List ℕ) × Consumes (i.left initial) (i.left final) p × Appends (o.taken w) (o.taken u) q
    × Converts budget p (reading i initial final) q (o.failed u) answer
    × StopsAtOnce i budget p initial final q
    × FlushedOnce o w u

-- The state of a reader.

module _ {S : Type 0} {g : Ghosts S} (reader : Reader S g) (s : S) (p : List ℕ) (h : HasRead reader s p) where
  unrefused : (budget : ℕ) → budget_of reader ≡ budget → refusal_of reader ≡ None → IsKnown g s (begun budget p) (sink_of reader) (left_of reader) None
  unrefused budget same none = grind arith

  refused_by : (budget : ℕ) (r : Refusal) → budget_of reader ≡ budget → refusal_of reader ≡ Some r →
      AnswersBy g s budget p (sink_of reader) (left_of reader) r (cause_of r.fault)
  refused_by budget r same some = grind arith

-- a refusal of the stream so far is the refusal of the whole stream
means_refused : (budget : ℕ) (p : List ℕ) (r : Refusal) → (begun budget p).refusal ≡ Some r → means budget p ≡ begun budget p
means_refused budget p r is = ap (ended_by (begun budget p) (length p)) is

module _ {O : Type 0} (o : outlet.Ghosts O) (w : O) (s : Canonical O) (begins : StartsText o w s) (g : Ghosts (Canonical O))
    (took_is : (t : Canonical O) (d : List Entry) → g.took s d t → Took o s d t)
    (broke_is : (t : Canonical O) (d : List Entry) (e : Entry) → g.broke s d e t → Broke o s d e t) (failed_is : g.failed s ≡ o.failed s.outlet)
    (wants_none : (d : List Entry) → g.wants s d → ⊥) where
  -- the header was not written
  pub header_fails : {I : Type 0} (i : inlet.Ghosts I) (input : I) (reader : Reader (Canonical O) g) → HasRead reader s [] → refusal_of reader ≡ None → o.failed s.outlet ≡ true →
      (u : O) (answer : Result ℕ ConvertFault) → Keeps (o.taken s.outlet) (o.taken u) → o.failed u ≡ true → Concludes s.written (Ok tt) (o.failed u) answer →
      (q : List ℕ) × Appends (o.taken w) (o.taken u) q × Converts (budget_of reader) [] (reading i input input) q (o.failed u) answer
      × StopsAtOnce i (budget_of reader) [] input input q × Writes (sending o w 0) (sending_of o s)
  header_fails i input reader h none fails u answer keeps failed ends =
      let sent : Sends (sending o w 0) header true (sending_of o s) = subst (λ (broke : Bool). Sends (sending o w 0) header broke (sending_of o s)) fails begins.begins in
      let q = take sent.part header in
      let prefix : (d : List Entry) → IsPrefixOf q (text d) = λ d. (
        drop sent.part header ++ pieces_bytes text_end_after_header (pieces Two start d),
        ap (λ (bytes : List ℕ). bytes ++ pieces_bytes text_end_after_header (pieces Two start d)) (sym (take-append-drop sent.part header)) ∙ append_assoc q (drop sent.part header) (pieces_bytes text_end_after_header (pieces Two start d)),
      ) in
      let is : answer ≡ Err (ConvertFault.Write s.written) = subst (λ (b : Bool). Concludes s.written (Ok tt) b answer) failed ends in (
        q,
        Appends-kept (o.taken w) (o.taken s.outlet) (o.taken u) q sent.grows.taken keeps,
        rw (failed, is) (
          omega (arith, sent.grows.count),
          record {
            prefix = prefix (list_of (budget_of reader) []);
            left = inr (prefix (begun (budget_of reader) []).entries);
          },
        ),
        record {
          last = record {
            mid = input;
            before = [];
            last = [];
            parts = refl;
            gave = Consumes-nil (i.left input);
            gives = Consumes-nil (i.left input);
            reads = omega arith;
            once = omega arith;
            unrefused = (unrefused reader s [] h (budget_of reader) refl none).refusal;
          };
          written = λ some. absurd (omega (arith, some));
        },
        sent.grows.writes,
      )

  module _ (works : o.failed s.outlet ≡ false) {I : Type 0} (i : inlet.Ghosts I) (initial final : I) (old new : Reader (Canonical O) g) (p : List ℕ) (same : budget_of new ≡ budget_of old) where
    -- the entries known before the last read are a prefix of all
    pub first_of : (last : LastRead i (budget_of old) p initial final) → IsPrefixOf (begun (budget_of old) last.before).entries (begun (budget_of old) p).entries
    first_of last =
        subst (λ (bytes : List ℕ). IsPrefixOf (begun (budget_of old) last.before).entries (begun (budget_of old) bytes).entries) (sym last.parts)
        (more_bytes_keep_entries (budget_of old) last.before last.last)

    abbrev pub Ends : LastRead i (budget_of old) p initial final → Canonical O → Result (Unit {0}) FeedFault → Type 0
    Ends last t fed = Leaves o w s begins works (budget_of old) p (reading i initial final) last.before (first_of last) t fed

    -- the feeding stopped before the end
    pub fed_leaves : (fault : FeedFault) (h : Feeds i old new s p initial final (Err fault)) → Ends h.last (sink_of new) (Err fault)
    fed_leaves FeedFault.Read h = grind (arith, unrefused, leaves_cut, first_of)
    fed_leaves (FeedFault.Refused r) h = at (cause_of r.fault) refl (refused_by new s p h.has_read (budget_of old) r same h.ends.1)
      where
        broken : cause_of r.fault ≢ stream → Ends h.last (sink_of new) (Err (FeedFault.Refused r))
        broken broke =
            let budget = budget_of old in
            let (n, within, stops) = h.stops in
            let among = fed_breaks_among g s budget h.last.before h.last.last n (sink_of new) (left_of new) r within broke stops in
            let here = subst (λ (bytes : List ℕ). BreaksAmong g s budget bytes (begun budget h.last.before).entries (begun budget bytes) (sink_of new) r) (sym h.last.parts) among in
            leaves_broken o w s begins works budget p (reading i initial final) h.last.before (first_of h.last) g took_is broke_is failed_is wants_none (sink_of new) r
            (begun budget h.last.before).entries (begun budget p) here h.ends.0 (prefix_refl (begun budget h.last.before).entries) (begun_comes_first budget p)
            (λ q prefix. inr prefix) broke

        at : (cause : Cause) → cause_of r.fault ≡ cause → AnswersBy g s (budget_of old) p (sink_of new) (left_of new) r cause → Ends h.last (sink_of new) (Err (FeedFault.Refused r))
        at stream own known =
            let budget = budget_of old in
            let whole = means_refused budget p r known.refusal in
            let list = ap (λ (out : Outcome). out.entries) whole in
            leaves_refused o w s begins works budget p (reading i initial final) h.last.before (first_of h.last) (sink_of new) r h.ends.0 (inr known.refusal)
            (inr (subst (λ (d : List Entry). IsPrefixOf (text (list_of budget p)) (text d)) list (prefix_refl (text (list_of budget p))))) own
            (ap (λ (out : Outcome). out.refusal) whole ∙ known.refusal)
            (subst (λ (d : List Entry). Took o s d (sink_of new)) (sym list) (took_is (sink_of new) (begun budget p).entries known.taken))
        at memory is known = broken (λ own. let bad = sym is ∙ own in cc)
        at device is known = broken (λ own. let bad = sym is ∙ own in cc)

    -- the stream was read to its end
    module _ (h : Feeds i old new s p initial final (Ok tt)) where
      pub whole_leaves : (t : Canonical O) → (IsTaken g s (means (budget_of new) p) t None) → Ends h.last t (Ok tt)
      whole_leaves t taken = grind (arith, leaves_whole, first_of)

      pub end_leaves : (t : Canonical O) (r : Refusal) → (cause_of r.fault ≡ stream → IsTaken g s (means (budget_of new) p) t (Some r)) →
          (cause_of r.fault ≢ stream → BreaksInRun g s (budget_of new) p t r) → Ends h.last t (Err (FeedFault.Refused r))
      end_leaves t r own broke = at (cause_of r.fault) refl
        where
          known : IsKnown g s (begun (budget_of old) p) (sink_of new) (left_of new) None
          known = unrefused new s p h.has_read (budget_of old) same h.ends.1

          broken : cause_of r.fault ≢ stream → Ends h.last t (Err (FeedFault.Refused r))
          broken other =
              let budget = budget_of old in
              let among = end_breaks_among g s budget p t r known.refusal (subst (λ (b : ℕ). BreaksInRun g s b p t r) same (broke other)) in
              leaves_broken o w s begins works budget p (reading i initial final) h.last.before (first_of h.last) g took_is broke_is failed_is wants_none t r (begun budget p).entries
              (means budget p) among h.ends.0.none_failed (first_of h.last) (prefix_refl (list_of budget p)) (λ q prefix. inl h.ends.0) other

          at : (cause : Cause) → cause_of r.fault ≡ cause → Ends h.last t (Err (FeedFault.Refused r))
          at stream is =
              let here = subst (λ (budget : ℕ). IsTaken g s (means budget p) t (Some r)) same (own is) in
              leaves_refused o w s begins works (budget_of old) p (reading i initial final) h.last.before (first_of h.last) t r h.ends.0.none_failed (inl h.ends.0)
              (inl h.ends.0) is here.0 (took_is t (list_of (budget_of old) p) here.1)
          at memory is = broken (λ own. let bad = sym is ∙ own in cc)
          at device is = broken (λ own. let bad = sym is ∙ own in cc)

  -- a conversion that was fed bytes, and the output as it is given back
  module _ (works : o.failed s.outlet ≡ false) {I : Type 0} (i : inlet.Ghosts I) (initial final : I) (old new : Reader (Canonical O) g) (has_read : HasRead old s []) (same : budget_of new ≡ budget_of old) (budget : ℕ)
      (is : budget_of old ≡ budget) (law : (x : O) → o.write_failed x ≡ true → o.failed x ≡ true) (unfailed : o.failed w ≡ false) (u : O) (answer : Result ℕ ConvertFault) where
    abbrev Fed : Result (Unit {0}) FeedFault → Type 0
    Fed r = (p : List ℕ) × Consumes (i.left initial) (i.left final) p × ((s : Canonical O) → HasRead old s [] → Feeds i old new s p initial final r)

    -- the promise of a conversion, from the sink as feeding left it
    abbrev Closes : Canonical O → Result (Unit {0}) FeedFault → Type 0
    Closes t fed =
        EndsOutput o t.outlet u × Concludes t.written fed (o.failed u) answer

    -- the same with its last read
    closes : (p : List ℕ) → Consumes (i.left initial) (i.left final) p → (last : LastRead i (budget_of old) p initial final) (t : Canonical O) (fed : Result (Unit {0}) FeedFault) →
        Ends works i initial final old new p same last t fed → Closes t fed → Converted i o budget initial final w u answer
    closes p read last t fed leaves (end, ends) =
        let first = first_of works i initial final old new p same last in
        let (q, appends, converts, known, wrote) = concluded o w s begins works (budget_of old) p (reading i initial final) last.before first t fed u answer leaves end.taken end.failed ends in (
          p,
          q,
          read,
          appends,
          subst (λ (b : ℕ). Converts b p (reading i initial final) q (o.failed u) answer) is converts,
          subst (λ (b : ℕ). StopsAtOnce i b p initial final q) is (record { last = last; written = λ _. known }),
          flushed_once o law w unfailed t u wrote end.flushes end.write_failed,
        )

    pub whole_converts : Fed (Ok tt) → (t : Canonical O) → ((p : List ℕ) → HasRead new s p → IsTaken g s (means (budget_of new) p) t None) → Closes t (Ok tt) →
        Converted i o budget initial final w u answer
    whole_converts (p, read, feeds) t taken =
        let h = feeds s has_read in
        closes p read h.last t (Ok tt) (whole_leaves works i initial final old new p same h t (taken p h.has_read))

    pub end_converts : Fed (Ok tt) → (t : Canonical O) (r : Refusal) → (cause_of r.fault ≡ stream → (p : List ℕ) → HasRead new s p → IsTaken g s (means (budget_of new) p) t (Some r)) →
        (refusal_of new ≡ None → cause_of r.fault ≢ stream → (p : List ℕ) → HasRead new s p → BreaksInRun g s (budget_of new) p t r) → Closes t (Err (FeedFault.Refused r)) →
        Converted i o budget initial final w u answer
    end_converts (p, read, feeds) t r own broke =
        let h = feeds s has_read in
        closes p read h.last t (Err (FeedFault.Refused r)) (end_leaves works i initial final old new p same h t r (λ is. own is p h.has_read) (λ other. broke h.ends.1 other p h.has_read))

    pub fed_converts : (fault : FeedFault) → Fed (Err fault) → (t : Canonical O) → t ≡ sink_of new → Closes t (Err fault) → Converted i o budget initial final w u answer
    fed_converts fault (p, read, feeds) t left =
        let h = feeds s has_read in
        closes p read h.last t (Err fault)
        (subst (λ (t : Canonical O). Ends works i initial final old new p same h.last t (Err fault)) (sym left) (fed_leaves works i initial final old new p same fault h))
