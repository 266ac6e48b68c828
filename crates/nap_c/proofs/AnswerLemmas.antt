-- What the calls answer, and why a page that is checked in pieces is refused.
use Rattle.nap_c.proofs.{Answer, CountSink, Err, Fault, IsRefusal, LacksForText, LacksToCount, List, Made, None, Offers, Option, Refusal, Some, [], accepted_answer, ap, append-nil, arith, false, inl, inr, length, means, refl, refusal_of, refused_answer, sink_of, subst, sym, text, uncounted, ℕ, ◌++◌, ◌∙◌, ◌≡◌, ◌≢◌, ◌≤◌}
use Rattle.nap_command.proofs.PublicLaws.{is_memory, still_refused}
use Rattle.std.proofs.{lemmas.Bool.false≢true, lemmas.List.get_or_append_left, lemmas.List.take-append-le}
use Rattle.nap_make.specs.{Texts.IsPageMade, declared.page.MadePage.MadePage}
use Rattle.nap_reader.specs.{Collecting.IsRead, Collecting.LacksMemoryFor, declared.reader.Stopped.Stopped}
use Rattle.nap_c.specs.Answers.{AnswersInBudget, AnswersMaking, CopiesFinds, CountsInBudget, IsGiven, IsTextOf, ended_answer, found_answer, offered_answer}
use Rattle.nap_command.specs.Finding.{asked_for, finds_text}
use Rattle.nap_find.specs.Rows.{open_of}
use Rattle.nap_canon.specs.Names.{BreaksAmong, BreaksInRun, Cause, Entry, Ghosts, LacksWithin, Outcome, Reader, WantsSome, begun, cause_of, device, memory, stream}
use Rattle.nap_command.specs.Answers.{IsPlaced, places}
use Rattle.nap_list.specs.Counting.{Uncounted}
use Rattle.nap_reader.proofs.PublicLaws.{begun_comes_first, end_breaks_among, fed_breaks_among}
use Rattle.nap_reader.specs.ReaderAnswers.{Answers, AnswersBy, HasRead, IsBroken, IsTaken, StopsBy, budget_of, left_of}
use Rattle.std.proofs.Common.{Bool, Ok, Result, ap₂, get_or, length-append, take, ◌<◌, ◌^◌, ◌⊎◌}
use Rattle.std.specs.Prelude.{MatchResult}

-- the answer with the text of a page, or with the reason why there is none
pub answers_text : {V : Type 0} (items : V → List ℕ) (budget : ℕ) (p : List ℕ) (CanLack : ℕ → Type 0) (whole old new : List ℕ) (a : Answer) (found : Result V Refusal) →
    MatchResult found (λ text. IsTextOf budget p whole (items text)) (IsRefusal budget p CanLack) →
    MatchResult found (λ text. Offers (items text) old new (accepted_answer (length (items text))) a) (λ r. (a ≡ refused_answer r 0) × (new ≡ old)) →
    AnswersInBudget budget p CanLack whole [] old new a
answers_text _ _ _ _ _ old new a (Ok _) is offers =
    inl (record { accepted = is.accepted; offers = subst (λ bytes. Offers bytes old new (accepted_answer (length bytes)) a) is.text_is offers })
answers_text _ _ _ _ _ _ _ _ (Err r) is says =
    elim (is_memory r.fault) [
      | inl wanting ↦
          inr (inr (
            record {
              place = r.place;
              wanting = is.memory wanting;
              answer = says.0 ∙ ap (λ f. refused_answer (record { fault = f; place = r.place }) 0) wanting;
            },
            says.1,
          ))
      | inr apart ↦ inr (inl (record { refusal = r; own = apart; refused = is.refused apart; offers = inl (record { fits = omega arith; room = says.1; answer = says.0 }) }))
    ]

-- copying an empty text changes nothing
nothing_given : (old new : List ℕ) (whole a : Answer) → Offers [] old new whole a → (a ≡ whole) × (new ≡ old)
nothing_given _ _ _ _ (inl gives) = (gives.answer, gives.room)
nothing_given _ _ _ _ (inr wants) = absurd (omega (arith, wants.few))

-- the answer with the places of a page
pub answers_places : (budget : ℕ) (p text old new : List ℕ) (a : Answer) (ended : Result ℕ Refusal) → IsPlaced budget p text ended → Offers text old new (ended_answer ended (length text)) a →
    AnswersInBudget budget p (LacksForText budget p) (places budget p) (places budget p) old new a
answers_places _ _ _ old new a (Ok _) is offers =
    inl (record { accepted = is.accepted; offers = subst (λ bytes. Offers bytes old new (accepted_answer (length bytes)) a) is.text_is offers })
answers_places _ _ _ old new a (Err r) is offers =
    elim (is_memory r.fault) [
      | inl wanting ↦
          let own = is.memory wanting in
          let none = nothing_given old new (refused_answer r 0) a (subst (λ bytes. Offers bytes old new (refused_answer r (length bytes)) a) own.1 offers) in
          inr (inr (
            record { place = r.place; wanting = inl own.0; answer = none.0 ∙ ap (λ f. refused_answer (record { fault = f; place = r.place }) 0) wanting },
            none.1,
          ))
      | inr apart ↦
          let own = is.refused apart in
          inr (inl (record {
            refusal = r;
            own = apart;
            refused = own.0;
            offers = subst (λ bytes. Offers bytes old new (refused_answer r (length bytes)) a) own.1 offers;
          }))
    ]

-- the answer with the reason why a page wasn't counted
pub answers_uncounted : (budget : ℕ) (p : List ℕ) (f : Fault) (place : ℕ) (a : Answer) → IsRefusal budget p (LacksToCount budget p) (record { fault = f; place = place }) →
    a ≡ refused_answer (record { fault = f; place = place }) 0 → CountsInBudget budget p a
answers_uncounted _ _ f place _ is says =
    elim (is_memory f) [
      | inl wanting ↦
          inr (inr (record {
            place = place;
            wanting = is.memory wanting;
            answer = says ∙ ap (λ g. refused_answer (record { fault = g; place = place }) 0) wanting;
          }))
      | inr apart ↦ inr (inl (record { refusal = record { fault = f; place = place }; own = apart; refused = is.refused apart; answer = says }))
    ]

-- A page whose entries were counted is refused.
module _ (g : Ghosts CountSink) (s : CountSink) (none : s.count ≡ 0) (wants_is : (d : List Entry) → g.wants s d → Uncounted s d) (sound : (t : CountSink) → g.failed t ≡ false) (budget : ℕ) (p : List ℕ) where
  own : (place : ℕ) → LacksMemoryFor g s budget p place → LacksWithin budget p place ⊎ (2 ^ 64 ≤ length (means budget p).entries)
  own place (inl reader) = inl reader
  own place (inr (first, rest, parts, wants)) = inr (let all = ap length parts in omega (arith, wants_is first wants, none, all, length-append first rest))

  pub refused_to_count : (f : Fault) (place : ℕ) → IsRead g s budget p (Err (record { fault = f; place = place })) →
      IsRefusal budget p (LacksToCount budget p) (record { fault = f; place = place })
  refused_to_count Fault.Memory place h = record { refused = λ no. absurd (no refl); memory = λ _. record { breaks = h.collects.0; own = own place h.collects.1 } }
  refused_to_count Fault.Sink place h = let (breaks, (t, failed, took)) = h.collects in absurd (false≢true (sym (sound t) ∙ failed))
  refused_to_count f place h = record { refused = λ _. h.collects; memory = λ is. let bad : ⊥ = cc in absurd bad }

-- The page that lines make was copied to a room, or the room is too small for it.

pub answers_page : (p old new text : List ℕ) (page : MadePage) (gave given : Bool) (answer : Made) → IsPageMade p page → text ≡ page.text.items → IsGiven text old new gave → gave ≡ given →
    answer ≡ offered_answer given (length text) page.count → AnswersMaking p old new answer
answers_page _ old new text page _ given _ made same gives is says =
    inl (record {
      page = page.text.items;
      made = made.0;
      given = given;
      room = subst (λ bytes. IsGiven bytes old new given) same (subst (IsGiven text old new) is gives);
      answer_is = says ∙ ap₂ (offered_answer given) (ap length same) made.1;
    })

-- The finds were copied to a room, or the room is too small for them.
pub copies_finds : (least : ℕ) (p text old new : List ℕ) (place : ℕ) (whole a : Answer) → text ≡ finds_text least p → place ≡ open_of (asked_for least) p → whole ≡ found_answer place (length text) →
    Offers text old new whole a → CopiesFinds least p old new a
copies_finds least p text old new place whole a is at says offers =
    let known = subst (λ (w : Answer). Offers text old new w a) (says ∙ ap (λ n. found_answer n (length text)) at) offers in
    inl (subst (λ bytes. Offers bytes old new (found_answer (open_of (asked_for least) p) (length bytes)) a) is known)

device_fault : (f : Fault) → cause_of f ≡ device → f ≡ Fault.Sink
device_fault f is = grind arith

memory_fault : (f : Fault) → cause_of f ≡ memory → f ≡ Fault.Memory
memory_fault f is = grind arith

pub none_or_some : {X : Type 0} (o : Option X) → (o ≡ None) ⊎ ((x : X) × (o ≡ Some x))
none_or_some None = inl refl
none_or_some (Some x) = inr (x, refl)

-- the refusal at an end, or another one if it was accepted
refusal_or : {X S : Type 0} → Refusal → Result X (Stopped S) → Refusal
refusal_or other (Ok x) = other
refusal_or other (Err stopped) = stopped.refusal

pub same_refusal : {X S : Type 0} (found : Result X (Stopped S)) (a b : Stopped S) → found ≡ Err a → found ≡ Err b → a.refusal ≡ b.refusal
unfolding refusal_or
same_refusal _ a _ one two = ap (refusal_or a.refusal) (sym one ∙ two)

-- Why a page that is checked in pieces is refused, under this budget.
module _ {g : Ghosts CountSink} (wants_is : (d : List Entry) → g.wants uncounted d → Uncounted uncounted d) (reader : Reader CountSink g) (budget : ℕ) (same : budget_of reader ≡ budget)
    (p : List ℕ) (has_read : HasRead reader uncounted p) (r : Refusal) where
  -- a count exceeds 64 bits for all entries if it does for a prefix
  uncountable : (known more all : List Entry) → all ≡ known ++ more → WantsSome g uncounted known → 2 ^ 64 ≤ length all
  uncountable known more all joins (first, rest, parts, wants) =
      omega (arith, wants_is first wants, ap length parts, ap length joins, length-append first rest, length-append known more)

  lacks : (q : List ℕ) (known more : List Entry) (t : CountSink) → (means budget q).entries ≡ known ++ more →
      (o : Outcome) → o.entries ≡ known → (before : List Entry) → BreaksAmong g uncounted budget q before o t r → cause_of r.fault ≡ memory → IsRefusal budget q (LacksToCount budget q) r
  lacks q known more _ joins _ is _ broke wanting = record {
    refused = λ apart. absurd (apart (memory_fault r.fault wanting));
    memory = λ _. record {
      breaks = broke.place;
      own = elim (broke.wants wanting) [
        | inl reader_lacks ↦ inl reader_lacks
        | inr sink_lacks ↦ inr (uncountable known more (means budget q).entries joins (subst (WantsSome g uncounted) is sink_lacks))
      ];
    };
  }

  own_refusal : (q : List ℕ) → cause_of r.fault ≡ stream → (means budget q).refusal ≡ Some r → IsRefusal budget q (LacksToCount budget q) r
  own_refusal _ is refused = record { refused = λ _. refused; memory = λ wants. let bad : stream ≡ memory = sym is ∙ ap cause_of wants in absurd cc }

  -- The page was refused before its end, and more bytes follow.
  module _ (some : refusal_of reader ≡ Some r) (sound : r.fault ≢ Fault.Sink) (more : List ℕ) where
    known : AnswersBy g uncounted budget p (sink_of reader) (left_of reader) r (cause_of r.fault)
    known =
        subst (λ b. AnswersBy g uncounted b p (sink_of reader) (left_of reader) r (cause_of r.fault)) same
        (subst (Answers g uncounted (budget_of reader) p (sink_of reader) (left_of reader)) some has_read.answers)

    among : (i : ℕ) → i < length p → cause_of r.fault ≡ memory → IsBroken g uncounted budget (take i p) (get_or p i 0) (sink_of reader) (left_of reader) r →
        BreaksAmong g uncounted budget (p ++ more) (begun budget []).entries (begun budget (p ++ more)) (sink_of reader) r
    among i within is broken =
        let front = take-append-le i p more (omega (arith, within)) in
        let there = get_or_append_left p more 0 i within in
        let stops = subst (StopsBy g uncounted budget (take i p) (get_or p i 0) (sink_of reader) (left_of reader) r) (sym is) broken in
        let longer : StopsBy g uncounted budget (take i (p ++ more)) (get_or (p ++ more) i 0) (sink_of reader) (left_of reader) r (cause_of r.fault) = rw (front, there) stops in
        fed_breaks_among g uncounted budget [] (p ++ more) i (sink_of reader) (left_of reader) r (omega (arith, within, length-append p more)) (λ apart. let bad = sym is ∙ apart in cc) longer

    why : (cause : Cause) → cause_of r.fault ≡ cause → AnswersBy g uncounted budget p (sink_of reader) (left_of reader) r cause →
        IsRefusal budget (p ++ more) (LacksToCount budget (p ++ more)) r
    why stream is here = own_refusal _ is (still_refused budget p more r here.refusal)
    why memory is (i, within, broken) =
        let (added_entries, joins) = begun_comes_first budget (p ++ more) in
        lacks (p ++ more) (begun budget (p ++ more)).entries added_entries (sink_of reader) joins (begun budget (p ++ more)) refl (begun budget []).entries (among i within is broken) is
    why device is here = absurd (sound (device_fault r.fault is))

    pub refused_so_far : IsRefusal budget (p ++ more) (LacksToCount budget (p ++ more)) r
    refused_so_far = why (cause_of r.fault) refl known

  -- The page is refused at its end.
  module _ (t : CountSink) (unrefused : refusal_of reader ≡ None) (refused : cause_of r.fault ≡ stream → IsTaken g uncounted (means (budget_of reader) p) t (Some r))
      (breaks : cause_of r.fault ≢ stream → BreaksInRun g uncounted (budget_of reader) p t r) (sound : r.fault ≢ Fault.Sink) where
    before : (begun budget p).refusal ≡ None
    before = subst (λ b. (begun b p).refusal ≡ None) same (subst (Answers g uncounted (budget_of reader) p (sink_of reader) (left_of reader)) unrefused has_read.answers).refusal

    why_at_end : (cause : Cause) → cause_of r.fault ≡ cause → IsRefusal budget p (LacksToCount budget p) r
    why_at_end stream is = own_refusal p is (subst (λ b. (means b p).refusal ≡ Some r) same (refused is).0)
    why_at_end memory is =
        let broke = subst (λ b. BreaksInRun g uncounted b p t r) same (breaks (λ apart. let bad = sym is ∙ apart in cc)) in
        lacks p (means budget p).entries [] t (sym (append-nil (means budget p).entries)) (means budget p) refl (begun budget p).entries (end_breaks_among g uncounted budget p t r before broke) is
    why_at_end device is = absurd (sound (device_fault r.fault is))

    pub refused_at_end : IsRefusal budget p (LacksToCount budget p) r
    refused_at_end = why_at_end (cause_of r.fault) refl
