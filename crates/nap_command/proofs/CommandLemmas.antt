use Rattle.nap_command.proofs.{Action, AnswersPage, Appends, Appends-kept, Bool, BreaksWithin, Canonical, CountsEntries, DeniesInput, Entry, Err, Fails, FailsToMake, Failure, Fault, Finds, Ghosts, Grows, IfSome, IsAnswer, IsPlaced, IsReadTwice, IsSome, IsStreamRefusal, Keeps, List, ListFault, MatchResult, NeverWants, None, Ok, Option, Printout, PrintsBy, Question, Reading, ReadsTwice, Refusal, RefusesPage, Result, Some, StartsText, TakesText, Took, TwiceFault, Uncounted, Verdict, [], ap, append-nil, append_assoc, arith, cause_of, count_line, failure_of, false, flush_count, grows_none, inl, inr, is_err, length, length-append, length-take-le, lines, lines_join, list_of, means, or-false, or-true, passes_more, refl, refusal, refusal_of_text, refused_body_of, sending, start, stream, subst, sym, take, take-append_seam, take-nil, take_all, text, true, ℕ, ◌++◌, ◌^◌, ◌||◌, ◌∙◌, ◌∷◌, ◌≡◌, ◌≢◌, ◌≤◌, ◌⊎◌}
use Rattle.nap_command.specs.Commands.{CommandEnds, CountLacksMemory, Denies, EndsByAction, EndsByOptions, EndsListed, EndsPrinting, EndsSo, EndsWhole, IsPartly, IsPrinted, IsStream, PrintsCount, Reported, canon_text, ended_so}
use Rattle.nap_make.proofs.PublicLaws.{text_written}
use Rattle.nap_list.specs.declared.device.Outlet as outlet
use Rattle.nap_canon.specs.Names.{Cause, FlushedOnce, IsReadWhole, LacksWithin, TookPrefix, device, memory}
use Rattle.nap_command.specs.Answers.{AnswersLines, accepted_body_of, ended_line, refused_line}
use Rattle.nap_command.specs.Types.{Command, CountSink, IsAccepted, IsMadeOf, MakeFault}
use Rattle.nap_lines.specs.Printing.{BrokeLines, Closes, Printing, SendsPart, TookLines, sending_by}
use Rattle.nap_reader.specs.Collecting.{Collects, IsCount, IsCounted, IsRead, LacksMemoryFor, RefusedBy}

-- What a command prints and how it ends, and what the answer to a request has.

-- the output failed during a text
pub printed_partly : (text : List ℕ) (ended : Result Verdict Failure) (old new : Option (List ℕ)) (b : Bool) (f : Failure) → TakesText old new text (Err f) → b ≡ true →
    (q : List ℕ) × Appends old new q × IsPrinted text ended q b (Err f)
printed_partly text ended old new b (Failure.Write n) h e = (take n text, h.1, rw (e, length-take-le n text h.0) (refl, refl))
printed_partly text ended old new b _ h e = absurd h

-- nothing was printed after a failure
pub nothing_printed : (q : List ℕ) (b : Bool) (own ended : Result Verdict Failure) → IsPrinted [] own q b ended → q ≡ []
nothing_printed q false own ended h = h.0
nothing_printed q true own ended h = sym h.1 ∙ take-nil (length q)

-- what was found was printed
pub ends_printing : (finds : List ℕ → Verdict → Type 0) (fails : Failure → Type 0) (found : Result Printout Failure) (q : List ℕ) (b : Bool) (ended : Result Verdict Failure) →
    MatchResult found (λ a. finds a.text.items a.verdict) fails → MatchResult found (λ a. IsPrinted a.text.items (Ok a.verdict) q b ended) (λ f. IsPrinted [] (Err f) q b ended) →
    EndsPrinting finds fails (length q) q b ended
ends_printing finds fails (Ok a) q false ended h printed = rw (printed.0, printed.1) h
ends_printing finds fails (Err f) q false ended h printed = rw (printed.1) (printed.0, h)
ends_printing finds fails (Ok a) q true ended h printed = rw (printed.0) (refl, inl (a.text.items, a.verdict, h, printed.1))
ends_printing finds fails (Err f) q true ended h printed = rw (printed.0) (refl, inr (f, h, nothing_printed q true (Err f) ended printed))

-- what `check` or `canon` prints at the end
module _ (c : Command) (p : List ℕ) (seen : Reading) (q : List ℕ) (failed : Bool) (ended : Result Verdict Failure) (h : EndsWhole c p seen q failed ended) where
  ends_by : (act : Action) → act ≢ Action.List → EndsByAction act c p seen q failed ended
  ends_by Action.List other = absurd (other refl)
  ends_by _ other = h

  pub ends_whole : c.stream ≡ false → c.action ≢ Action.List → CommandEnds c p seen q failed ended
  ends_whole off other = subst (λ stream. EndsByOptions stream c.hex c p seen q failed ended) (sym off) (ends_by c.action other)

-- Reads and writes in sequence.

-- an output that hasn't failed has no failed write
pub none_written_amiss : (wrote failed : Bool) → (wrote ≡ true → failed ≡ true) → failed ≡ false → wrote ≡ false
none_written_amiss false failed law works = refl
none_written_amiss true failed law works = let bad = sym (law refl) ∙ works in cc

-- a call that doesn't fail keeps the flag
pub flag_stays : (first before after : Bool) → before ≡ first → after ≡ (before || false) → after ≡ first
flag_stays first before after h k = k ∙ (or-false before ∙ h)

-- what standard error took of a line that was written
pub reported_written : (old new : Option (List ℕ)) (line : List ℕ) (r : Result (Unit {0}) Failure) (was now : Bool) → TakesText old new line r → now ≡ (was || is_err r) →
    (e : List ℕ) × Appends old new e × Reported line e now
reported_written old new line (Ok done) was now h flag = (line, h, record { prefix = take_all (length line) line (omega arith); all = λ _. refl })
reported_written old new line (Err (Failure.Write n)) was now h flag = (take n line, h.1, record { prefix = rw (length-take-le n line h.0); all = λ works. cc (or-true was) })
reported_written old new line (Err _) was now h flag = absurd h

-- The end of `make`.

-- the lines make no page
pub lines_refused : (p : List ℕ) (seen : Reading) (fault : MakeFault) → DeniesInput p seen (ListFault.Lines fault) → FailsToMake p seen (failure_of fault)
lines_refused p seen MakeFault.Memory h = h
lines_refused p seen MakeFault.Write h = absurd h.1
lines_refused p seen fault h = record { fault = fault; before = h.0; refuses = h.1; fails = refl }

-- What was read of a page gives the answer of a command.

-- a page is refused for this reason, if its sink can't fail
pub refusal_by : {S : Type 0} (g : Ghosts S) (s : S) (sound : (t : S) → g.failed t ≡ false) (c : Command) (page : List ℕ) (f : Fault) (place : ℕ) →
    RefusedBy g s c.budget page (refusal f place) (cause_of f) → IsStreamRefusal c page (refusal f place)
refusal_by g s sound c page Fault.Memory place h = record { refused = λ no. absurd (no refl); memory = λ _. h.0 }
refusal_by g s sound c page Fault.Sink place (h, (t, failed, took)) = cc (sound t)
refusal_by g s sound c page f place h = record { refused = λ _. h; memory = λ is. cc }

-- A page was counted.
module _ (g : Ghosts CountSink) (s : CountSink) (none : s.count ≡ 0) (took_is : (t : CountSink) (d : List Entry) → g.took s d t → CountsEntries s d t)
    (wants_is : (d : List Entry) → g.wants s d → Uncounted s d) (sound : (t : CountSink) → g.failed t ≡ false) (c : Command) (p : List ℕ) where
  uncounted : (place : ℕ) → LacksMemoryFor g s c.budget p place → LacksWithin c.budget p place ⊎ (2 ^ 64 ≤ length (means c.budget p).entries)
  uncounted place (inl own) = inl own
  uncounted place (inr (first, rest, parts, wants)) = inr (let all = ap length parts in omega (arith, wants_is first wants, none, all, length-append first rest))

  wanting : (f : Fault) (place : ℕ) → RefusedBy g s c.budget p (refusal f place) (cause_of f) → CountLacksMemory c p (refusal f place)
  wanting Fault.Memory place h = λ _. uncounted place h.1
  wanting Fault.Sink place (h, (t, failed, took)) = cc (sound t)
  wanting f place h = λ is. cc

  counted : (found : Result CountSink Refusal) (q : List ℕ) (v : Verdict) → Collects g s c.budget p found → PrintsCount found q v → PrintsBy Action.Check c p q v
  counted (Ok t) q Verdict.Accepted h is = (
    h.0,
    let all = (took_is t (list_of c.budget p) h.1).count in is ∙ ap count_line (omega (arith, all, none)),
  )
  counted (Ok t) q Verdict.Refused h is = absurd is
  counted (Err r) q Verdict.Accepted h is = absurd is
  counted (Err r) q Verdict.Refused h is = (r, refusal_by g s sound c p r.fault r.place h, wanting r.fault r.place h, is)

  pub prints_count : (found : Result CountSink Refusal) (result : Result Printout Failure) → IsRead g s c.budget p found →
      MatchResult result (λ a. PrintsCount found a.text.items a.verdict) (λ f. f ≡ Failure.Memory) →
      MatchResult result (λ a. PrintsBy Action.Check c p a.text.items a.verdict) (Denies c p)
  prints_count found (Ok a) h is = counted found a.text.items a.verdict h.collects is
  prints_count found (Err f) h is = rw is tt

-- The text of a page was written to an outlet that tells its bytes.
module _ {O : Type 0} (o : outlet.Ghosts O) (w : O) (s : Canonical O) (begins : StartsText o w s) (works : o.failed s.outlet ≡ false) (items : O → List ℕ)
    (tells : (u : O) → o.taken u ≡ Some (items u)) (empty : items w ≡ []) (g : Ghosts (Canonical O))
    (took_is : (t : Canonical O) (d : List Entry) → g.took s d t → Took o s d t) (c : Command) (p : List ℕ) (canon : c.action ≡ Action.Canon) where
  lacks : (f : Fault) (place : ℕ) → RefusedBy g s c.budget p (refusal f place) (cause_of f) →
      IsStreamRefusal c p (refusal_of_text (refusal f place))
  lacks Fault.Memory place h = record { refused = λ no. absurd (no refl); memory = λ _. h.0 }
  lacks Fault.Sink place (h, (t, failed, took)) = record { refused = λ no. absurd (no refl); memory = λ _. h }
  lacks f place h = record { refused = λ _. h; memory = λ is. cc }

  pub prints_text : (hex : Bool) (found : Result (Canonical O) Refusal) (result : Result Printout Failure) → c.hex ≡ hex → IsRead g s c.budget p found →
      MatchResult found (λ t. MatchResult result (λ a. (a.text.items ≡ canon_text hex (items t.outlet)) × (a.verdict ≡ Verdict.Accepted)) (λ f. f ≡ Failure.Memory))
      (λ r. result ≡ Err (Failure.Refused (refusal_of_text r))) →
      MatchResult result (λ a. PrintsBy Action.Canon c p a.text.items a.verdict) (Denies c p)
  prints_text hex (Ok t) (Ok a) same h is =
      rw (is.1) (
        text (list_of c.budget p),
        record { accepted = h.collects.0; text_is = refl },
        is.0 ∙ ap (canon_text hex) (text_written o w s t begins works items tells empty _ (took_is t _ h.collects.1)) ∙ ap (λ b. canon_text b (text (list_of c.budget p))) (sym same),
      )
  prints_text hex (Ok t) (Err f) same h is = rw is tt
  prints_text hex (Err r) result same h is = rw is (λ other. cc (canon, other), lacks r.fault r.place h.collects)

-- what is printed of a stream, if an input was it
pub found_whole : (c : Command) (p : List ℕ) (seen : Reading) (act : Action) → c.action ≡ act → c.hex ≡ false → IsReadWhole seen p → (result : Result Printout Failure) →
    MatchResult result (λ a. PrintsBy act c p a.text.items a.verdict) (Denies c p) → MatchResult result (λ a. Finds c p seen a.text.items a.verdict) (Fails c p seen)
found_whole c p seen act is bytes whole (Ok a) k = (whole, (p, rw bytes, subst (λ act. PrintsBy act c p a.text.items a.verdict) (sym is) k))
found_whole c p seen act is bytes whole (Err Failure.Memory) k = whole.none_failed
found_whole c p seen act is bytes whole (Err (Failure.Refused r)) k = (whole, (p, rw bytes, k))
found_whole c p seen act is bytes whole (Err _) k = absurd k

-- What was read of a page gives the answer to its request.

pub is_memory : (f : Fault) → (f ≡ Fault.Memory) ⊎ (f ≢ Fault.Memory)
is_memory Fault.Memory = inl refl
is_memory f = inr (λ is. cc)

pub answers_placed : (budget : ℕ) (p text : List ℕ) (ended : Result ℕ Refusal) (line : List ℕ) → IsPlaced budget p text ended → line ≡ ended_line ended →
    IsAnswer Question.Places budget p line text
answers_placed budget p text (Ok n) line h is = inl (record { accepted = h.accepted; line_is = is ∙ ap count_line h.count; body_is = h.text_is })
answers_placed budget p text (Err r) line h is =
    elim (is_memory r.fault) [
      | inl wanting ↦
          let own = h.memory wanting in
          inr (inr (record { place = r.place; breaks = own.0; counting = λ is. cc; line_is = is ∙ ap (λ f. refused_line (refusal f r.place)) wanting; body_is = own.1 }))
      | inr apart ↦ let own = h.refused apart in inr (inl (record { refusal = r; own = apart; refused = own.0; line_is = is; body_is = own.1 }))
    ]

-- A page is accepted, and its entries were counted.
pub answers_accepted : (q : Question) (budget : ℕ) (p line body : List ℕ) (count : Option ℕ) → IsAccepted budget p → IsCount count (length (list_of budget p)) →
    IfSome count (λ n. line ≡ count_line n) × IsSome count → body ≡ accepted_body_of q budget p → AnswersPage q budget p line body
answers_accepted q budget p line body (Some n) accepted is shows same = inl (record { accepted = accepted; line_is = shows.0 ∙ ap count_line is; body_is = same })
answers_accepted q budget p line body None accepted is shows same = cc

-- A page is refused to another question than `check`, and there is no body.
module _ (q : Question) (apart : q ≢ Question.Check) (budget : ℕ) (p : List ℕ) (none : refused_body_of q budget p ≡ []) where
  lacking : (line body : List ℕ) (place : ℕ) → BreaksWithin budget p place → line ≡ refused_line (refusal Fault.Memory place) → body ≡ [] → AnswersPage q budget p line body
  lacking line body place h is empty =
      inr (inr (record { place = place; breaks = h; counting = λ check. absurd (apart check); line_is = is; body_is = empty }))

  refusing : (line body : List ℕ) (r : Refusal) → r.fault ≢ Fault.Memory → (means budget p).refusal ≡ Some r → line ≡ refused_line r → body ≡ [] → AnswersPage q budget p line body
  refusing line body r own h is empty = inr (inl (record { refusal = r; own = own; refused = h; line_is = is; body_is = empty ∙ sym none }))

  -- an answer for a refused page, if the sink can't fail
  pub answers_refused : {S : Type 0} (g : Ghosts S) (s : S) (f : Fault) (place : ℕ) → IsCounted g s budget p (Err (refusal f place)) →
      (sound : (t : S) → g.failed t ≡ false) (line body : List ℕ) → (line ≡ refused_line (refusal f place)) × (body ≡ []) → AnswersPage q budget p line body
  answers_refused g s Fault.Memory place h sound line body is = lacking line body place h.counts.0 is.0 is.1
  answers_refused g s Fault.Sink place h sound line body is = let (breaks, (t, failed, took)) = h.counts in cc (sound t)
  answers_refused g s f place h sound line body is = refusing line body (refusal f place) (λ wants. cc) h.counts is.0 is.1

  -- an answer for a refused page whose canonical text was asked for
  pub answers_unspelled : (r : Refusal) → RefusesPage budget p r → (line body : List ℕ) → (line ≡ refused_line r) × (body ≡ []) → AnswersPage q budget p line body
  answers_unspelled r h line body is =
      elim (is_memory r.fault) [
        | inl wanting ↦ lacking line body r.place (h.memory wanting) (is.0 ∙ ap (λ f. refused_line (refusal f r.place)) wanting) is.1
        | inr apart ↦ refusing line body r apart (h.refused apart) is.0 is.1
      ]

-- lines make the page that is the body
pub answers_made : (p line text body : List ℕ) (made : IsMadeOf text p) → body ≡ text → line ≡ count_line (length made.entries) → AnswersLines p line body
answers_made p line text body made is shows = rw is (inl (record { made = made; line_is = shows }))

-- What `list` prints of a page that it reads twice.

prefix_taken : (q left whole : List ℕ) → whole ≡ q ++ left → take (length q) whole ≡ q
prefix_taken q left whole is = ap (take (length q)) is ∙ take-append_seam q left

pub list_refuses : (c : Command) (p page : List ℕ) (seen : Reading) (r : Refusal) → c.action ≡ Action.List → IsReadWhole seen p → IsStream c.hex p page → IsStreamRefusal c page r →
    Fails c p seen (Failure.Refused r)
list_refuses c p page seen r list whole streams refusal = (whole, (page, streams, ((λ other. cc (list, other)), refusal)))

module _ {O : Type 0} (o : outlet.Ghosts O) (w : O) (works : o.failed w ≡ false) (c : Command) (list : c.action ≡ Action.List) (page : List ℕ) (space : ℕ) where
  abbrev begun : Printing O
  begun = record { outlet = w; written = 0; buffered = []; state = start; space = space }

  -- any input that gives this page
  abbrev ForPage : (List ℕ → Reading → Type 0) → Type 0
  ForPage claim = (p : List ℕ) (seen : Reading) → IsReadWhole seen p → IsStream c.hex p page → claim p seen

  -- what was printed, a prefix of what the command prints
  pub record Leaves (u : O) (n : ℕ) (read : Result CountSink TwiceFault) : Type 0 where
    pub q : List ℕ
    pub grows : Grows (sending o w 0) q (sending o u n)
    pub partly : ForPage (λ p seen. IsPartly (Finds c p seen) (Fails c p seen) q)
    pub ends : o.failed u ≡ false → ForPage (λ p seen. EndsListed c p seen q false (ended_so read))

  -- nothing was printed
  none_printed : (u : O) (n : ℕ) (v : Printing O) (why : TwiceFault) (f : Failure) → (u ≡ v.outlet) × (n ≡ v.written) → v ≡ begun → ended_so {S = CountSink} (Err why) ≡ Err f → ForPage (λ p seen. Fails c p seen f) → Leaves u n (Err why)
  none_printed u n v why f (output, written) same so fails = record {
    q = [];
    grows = rw (output, written, same) (grows_none (sending o w 0));
    partly = λ p seen whole streams. inr (f, fails p seen whole streams, refl);
    ends = λ clear p seen whole streams. rw so (refl, fails p seen whole streams);
  }

  module _ (accepted : (means c.budget page).refusal ≡ None) (u : O) (n : ℕ) (v : Printing O) where
    finds : ForPage (λ p seen. Finds c p seen (lines (list_of c.budget page)) Verdict.Accepted)
    finds p seen whole is = (whole, (page, is, rw list (accepted, refl)))

    partly_of : (q left : List ℕ) → lines (list_of c.budget page) ≡ q ++ left → ForPage (λ p seen. IsPartly (Finds c p seen) (Fails c p seen) q)
    partly_of q left is p seen whole streams =
        inl (lines (list_of c.budget page), Verdict.Accepted, finds p seen whole streams, prefix_taken q left (lines (list_of c.budget page)) is)

    all_printed : (t : CountSink) → TookLines o begun (list_of c.budget page) v → Closes o v u n → Leaves u n (Ok t)
    all_printed t took closes =
        let all = passes_more (sending o w 0) (sending_by o v) (sending o u n) [] v.buffered closes.left (lines (list_of c.budget page)) [] took.passes closes.passes in
        let parts = sym (append-nil (lines (list_of c.budget page))) ∙ all.parts in
        record {
          q = all.sent;
          grows = all.grows;
          partly = partly_of all.sent closes.left parts;
          ends = λ clear p seen whole streams.
              rw (parts ∙ ap (all.sent ++◌) (closes.all clear) ∙ append-nil all.sent) at (finds p seen whole streams);
        }

    -- a prefix of the lines was printed, and then a write failed
    some_printed : (r : Refusal) (first rest : List Entry) (left : List ℕ) → u ≡ v.outlet → n ≡ v.written → list_of c.budget page ≡ first ++ rest → SendsPart (sending o w 0) [] (lines first) left (sending_by o v) →
        o.failed v.outlet ≡ true → Leaves u n (Err (TwiceFault.Refused r))
    some_printed r first rest left output written entries passes failed =
        let parts : lines (list_of c.budget page) ≡ passes.sent ++ (left ++ lines rest) =
        ap lines entries ∙ lines_join first rest ∙ ap (◌++ lines rest) passes.parts ∙ append_assoc passes.sent left (lines rest) in
        record {
          q = passes.sent;
          grows = rw (output, written) passes.grows;
          partly = partly_of passes.sent (left ++ lines rest) parts;
          ends = λ clear. (let bad : true ≡ false = sym failed ∙ ap o.failed (sym output) ∙ clear in cc);
        }

  -- The results of both readings, the second into a printer.
  module _ (g : Ghosts CountSink) (s : CountSink) (sound : (t : CountSink) → g.failed t ≡ false) (k : Ghosts (Printing O)) (fresh : k.failed begun ≡ false)
      (took_is : (t : Printing O) (d : List Entry) → k.took begun d t → TookLines o begun d t) (broke_is : (t : Printing O) (d : List Entry) (e : Entry) → k.broke begun d e t → BrokeLines o begun d e t)
      (dry : NeverWants k begun)
      (u : O) (n : ℕ) (v : Printing O) where
    breaks : (accepted : (means c.budget page).refusal ≡ None) (r : Refusal) (cause : Cause) → cause_of r.fault ≡ cause → cause ≢ memory →
        TookPrefix k begun [] (means c.budget page).entries v cause → u ≡ v.outlet → n ≡ v.written → Leaves u n (Err (TwiceFault.Refused r))
    breaks accepted r stream is lacks part output written = absurd part
    breaks accepted r memory is lacks part output written = absurd (lacks refl)
    breaks accepted r device is lacks (inl (failed, part)) output written = cc
    breaks accepted r device is lacks (inr (prefix, next, rest, entries, broke)) output written =
        let h = broke_is v prefix next broke in
        some_printed accepted u n v r (prefix ++ next ∷ []) rest h.left output written (entries ∙ sym (append_assoc prefix (next ∷ []) rest)) h.passes h.failed

    by : (read : Result CountSink TwiceFault) → ReadsTwice g k s begun c.budget page v read → MatchResult read (λ _. Closes o v u n) (λ _. (u ≡ v.outlet) × (n ≡ v.written)) → Leaves u n read
    by (Ok t) (accepted, counted, took) closes = all_printed accepted u n v t (took_is v (means c.budget page).entries took) closes
    by (Err (TwiceFault.Refused r)) (inl (refused, same)) left =
        none_printed u n v (TwiceFault.Refused r) (Failure.Refused r) left same refl
        (λ p seen whole streams. list_refuses c p page seen r list whole streams (refusal_by g s sound c page r.fault r.place refused))
    by (Err (TwiceFault.Refused r)) (inr (accepted, breaks_off)) (output, written) =
        breaks accepted r (cause_of r.fault) refl (breaks_off.lacks dry) breaks_off.broke.part output written
    by (Err TwiceFault.Memory) (accepted, same) left = none_printed u n v TwiceFault.Memory Failure.Memory left same refl (λ p seen whole streams. whole.none_failed)

    pub leaves : (printer : Printing O) → printer ≡ begun → (bytes : List ℕ) → bytes ≡ page → (read : Result CountSink TwiceFault) → IsReadTwice g k s printer c.budget bytes v read →
        MatchResult read (λ _. Closes o v u n) (λ _. (u ≡ v.outlet) × (n ≡ v.written)) → Leaves u n read
    leaves printer new bytes same read h =
        by read (rw (new, same) at h.reads)

  -- the output that is returned
  module _ (u v : O) (n : ℕ) (found : Result CountSink TwiceFault) (answer : Result Verdict Failure) (out : Leaves u n found) (keeps : Keeps (o.taken u) (o.taken v))
      (fails : o.failed u ≡ true → o.failed v ≡ true) (so : EndsSo found n (o.failed v) answer) where
    works_on : (b : Bool) → o.failed u ≡ b → o.failed v ≡ false → b ≡ false
    works_on false is whole = refl
    works_on true is whole = let bad = sym (fails is) ∙ whole in cc

    at : (failed : Bool) → o.failed v ≡ failed → EndsSo found n failed answer → ForPage (λ p seen. EndsListed c p seen out.q failed answer)
    at false is h = λ p seen whole streams. rw h (out.ends (works_on (o.failed u) refl is) p seen whole streams)
    at true is h = λ p seen whole streams. rw h (omega (arith, out.grows.count), out.partly p seen whole streams)

    pub ends : (q : List ℕ) × Appends (o.taken w) (o.taken v) q × ForPage (λ p seen. EndsListed c p seen q (o.failed v) answer)
    ends = (out.q, Appends-kept (o.taken w) (o.taken u) (o.taken v) out.q out.grows.taken keeps, at (o.failed v) refl so)

  -- the output was flushed once, if no write failed
  pub flushes_once : (u v : O) (n : ℕ) (found : Result CountSink TwiceFault) → Leaves u n found → o.write_failed w ≡ false → o.flushes v ≡ flush_count (o.failed u) (o.flushes u) →
      o.write_failed v ≡ o.write_failed u → FlushedOnce o w v
  flushes_once u v n found out none flushes wrote =
      let same : o.failed u ≡ o.write_failed u = out.grows.writes.failed ∙ ap (λ b. b || out.grows.writes.fails) (works ∙ sym none) ∙ sym out.grows.writes.write_failed in
      flushes ∙ ap (λ b. flush_count b (o.flushes u)) (same ∙ sym wrote) ∙ ap (flush_count (o.write_failed v)) out.grows.writes.flushes
