use Rattle.nap_reader.proofs.Common.{ActsRun, Begins, Bool, Breaks, BreaksAt, BreaksAtByte, BreaksBetween, BreaksFrom, BreaksHere, BreaksInRun, BreaksWith, CanBreakAt, CanLackAt, Continues, DrawFault, Ends, EndsRun, Entry, Err, Executes, Ghosts, GrowsOpen, IsCharged, IsTaken, LacksOwn, Leads, List, Machine, None, Ok, OpenBody, OpenRun, Option, Outcome, Owes, Placed, ReadingState, Refusal, Result, RuleResult, RunAt, Some, StopsRun, TookPart, Unended, Unfinished, WantsMemory, Work, [], after_run, ap, append-nil, append_assoc, arith, at_byte, begun, cause_of, closed_by, cond, ended_by, false, half_read, in_run, inl, inr, is_operand_byte, length, length-append, means, memory, nil_from_length, open_place, placed_at, placed_from, refl, refusal, rule, run_place, stream, subst, sym, true, unfinished_by, with_code, with_drawn, with_run, ℕ, ◌++◌, ◌<◌, ◌∙◌, ◌∷◌, ◌≡◌, ◌≢◌, ◌⊎◌}
use Rattle.nap_reader.specs.Stream as model
use Rattle.nap_reader.specs.declared.machine.Machine as struct
use Rattle.nap_reader.proofs.ReadingLemmas.{Lawful, as_list, is_open_run, leads_entries, leads_left, leads_machine, leads_more, leads_paused, leads_taken, leads_unrefused, list_more, pays, refused_by, rule_part, run_past}
use Rattle.nap_reader.proofs.PartLemmas.{Known, breaks_longer, known_first, part_from, part_known}
use Rattle.nap_reader.proofs.StepLemmas.{passes_run}

-- what is unfinished after p is what the reading state has
module _ {S : Type 0} {g : Ghosts S} {s : S} {o : Outcome} {t : S} {h : ReadingState} (k : Continues g s o t h []) where
  pub unfinished_is : (body : Option OpenBody) (open_run : Option OpenRun) → h.open_body ≡ body → h.open_run ≡ open_run →
      o.unfinished ≡ Some (unfinished_by body open_run h.half h.run)
  unfinished_is body open_run opened is =
      ap (λ (x : Outcome). x.unfinished) (leads_paused k) ∙ ap (λ (b : Option OpenBody). Some (unfinished_by b h.open_run h.half h.run)) opened
      ∙ ap (λ (r : Option OpenRun). Some (unfinished_by body r h.half h.run)) is

  -- the place of an open run is that of the outcome
  pub open_place_is : (open_run : OpenRun) → h.open_body ≡ None → h.open_run ≡ Some open_run → open_place o ≡ Some open_run.place
  open_place_is open_run no_body is = ap run_place (unfinished_is None (Some open_run) no_body is)

  -- no run is open, so the outcome with the run is the outcome
  pub run_still : (h.open_body ≡ None → h.open_run ≡ None) → with_run o ≡ o
  run_still closed = in_mode h.open_body refl
    where
      still : (half : List ℕ) → model.with_run_by o (Some (half_read half)) ≡ o
      still [] = refl
      still (b ∷ bs) = refl

      in_mode : (body : Option OpenBody) → h.open_body ≡ body → with_run o ≡ o
      in_mode None no_body = ap (model.with_run_by o) (unfinished_is None None no_body (closed no_body)) ∙ still h.half
      in_mode (Some body) opened = ap (model.with_run_by o) (unfinished_is (Some body) h.open_run opened refl)

  -- the reading state at the end, if no body and no run is open
  pub ends_still : h.open_body ≡ None → h.open_run ≡ None → Ends g s (with_run o) t h.machine.work h.half
  ends_still no_body is =
      subst (λ (x : Outcome). Ends g s x t h.machine.work h.half) (sym (run_still (λ _. is)))
      (record { refusal = leads_unrefused k; taken = leads_taken k; work = ap (λ (m : Machine). m.work) (leads_machine k); half = unfinished_is None None no_body is })

-- The opcode of an open run acts after p, or stops.
module _ {S : Type 0} {g : Ghosts S} {s : S} {t : S} {h : ReadingState} {open_run : OpenRun} (budget : ℕ) (p : List ℕ) (no_body : h.open_body ≡ None) (is : h.open_run ≡ Some open_run) (k : Continues g s (begun budget p) t h []) where
  run_at_end : {by : Result RuleResult DrawFault} → rule h.machine.work open_run.op h.run ≡ by → with_run (begun budget p) ≡ with_drawn (begun budget p) open_run.place by
  run_at_end e =
      ap (model.with_run_by (begun budget p)) (unfinished_is k None (Some open_run) no_body is)
      ∙ ap (λ (m : Machine). with_drawn (begun budget p) open_run.place (rule m.work open_run.op h.run)) (leads_machine k)
      ∙ ap (with_drawn (begun budget p) open_run.place) e

  -- the run's entries are a prefix of those with a byte that ends the run
  run_begins : {drawn : RuleResult} (b : ℕ) → is_operand_byte b ≡ false → rule h.machine.work open_run.op h.run ≡ Ok drawn → (more : List Entry) × ((begun budget (p ++ b ∷ [])).entries ≡ (with_run (begun budget p)).entries ++ more)
  unfolding placed_from
  run_begins {drawn} b other by =
      let known = (begun budget p).entries in
      let list : Leads (begun budget p) known h [] = subst (λ (es : List Entry). Leads (begun budget p) es h []) (sym (leads_entries (as_list k))) (as_list k) in
      let (more, all) = known_first (pays (run_past no_body is (leads_more budget p (b ∷ []) list) other drawn by) list_more refl (λ clear. clear)) in
      (more, all ∙ ap (λ (o : Outcome). o.entries ++ more) (sym (run_at_end by)))

-- The open run after p, as a caller sees it.
module _ {S : Type 0} {g : Ghosts S} {s : S} {t : S} {h : ReadingState} (budget : ℕ) (p : List ℕ) (k : Continues g s (begun budget p) t h []) where
  pub run_breaks : {u : S} {r : Refusal} → Lawful g → StopsRun g t h u r → cause_of r.fault ≢ stream → BreaksInRun g s budget p u r
  run_breaks {u} laws stops broke =
      let (drawn, by, part) = rule_part g t u _ stops.fault stops.drew (λ own. broke (ap (λ (r : Refusal). cause_of r.fault) stops.why ∙ own)) in
      let at = run_at_end budget p stops.between stops.is k by in
      subst (BreaksInRun g s budget p u) (sym stops.why) (record {
        place = open_place_is k stops.open_run stops.between stops.is;
        part = record {
          more = drawn.entries;
          adds = ap (λ (o : Outcome). o.entries) at;
          unrefused = ap (λ (o : Outcome). o.refusal) at;
          part = part_known u [] drawn.entries _ laws (record { taken = leads_taken k; clear = k.clear }) (sym (append-nil (begun budget p).entries)) part;
        };
      })

  pub run_refused : {u : S} {r : Refusal} → StopsRun g t h u r → cause_of r.fault ≡ stream → IsTaken g s (means budget p) u (Some r)
  run_refused {u} {r} stops own =
      let (by, same) = refused_by g t u _ stops.fault stops.drew (ap (λ (r : Refusal). cause_of r.fault) (sym stops.why) ∙ own) in
      let at = run_at_end budget p stops.between stops.is k by in
      let ended : means budget p ≡ with_run (begun budget p) =
      ap (ended_by (begun budget p) (length p)) (leads_unrefused k) ∙ ap (model.with_end (with_run (begun budget p)) (length p)) (ap (λ (o : Outcome). o.refusal) at) in
      subst (λ (o : Outcome). IsTaken g s o u (Some r)) (sym (ended ∙ at)) (ap Some (sym stops.why), rw same (leads_taken k))

  pub acts_at_end : {u : S} {h' : ReadingState} → Lawful g → ActsRun g t h u h' → Ends g s (with_run (begun budget p)) u h'.machine.work h'.half
  acts_at_end {u} {h'} laws acts =
      let at = run_at_end budget p acts.between acts.is k acts.by in
      let none = ap (λ (h : ReadingState). h.half) acts.holds ∙ (is_open_run h k.rest acts.open_run acts.between acts.is k.retained).1 in
      record {
        refusal = ap (λ (x : Outcome). x.refusal) at;
        taken = subst (λ (es : List Entry). g.took s es u) (sym (ap (λ (x : Outcome). x.entries) at)) (laws.more s t u (begun budget p).entries acts.drawn.entries (leads_taken k) acts.took);
        work = ap (λ (x : Outcome). x.machine.work) at ∙ sym (ap (λ (h : ReadingState). h.machine.work) acts.holds);
        half = ap (λ (x : Outcome). x.unfinished) at ∙ ap (λ (half : List ℕ). Some (half_read half)) (sym none);
      }

-- a stream that is refused only at its end, or not at all
module _ (budget : ℕ) (p : List ℕ) (live : (begun budget p).refusal ≡ None) where
  pub means_settled : (with_run (begun budget p)).refusal ≡ None →
      means budget p ≡ with_code (with_run (begun budget p)) (length p) (with_run (begun budget p)).unfinished
  means_settled none = search (arith) steps 100000

-- at the end, once nothing is unfinished but a code or a definition
pub ended_is : {S : Type 0} {g : Ghosts S} {s t : S} {work : Work} {half : List ℕ} (budget : ℕ) (p : List ℕ) (fed : ℕ) → (begun budget p).refusal ≡ None → Ends g s (with_run (begun budget p)) t work half → fed ≡ length p →
    with_code (with_run (begun budget p)) fed (with_run (begun budget p)).unfinished ≡ means budget p
ended_is budget p fed live k all = ap (λ (n : ℕ). with_code (with_run (begun budget p)) n (with_run (begun budget p)).unfinished) all ∙ sym (means_settled budget p live k.refusal)

-- an open body is refused at the end
pub body_ended : {S : Type 0} {g : Ghosts S} {s : S} (budget : ℕ) (p : List ℕ) {t : S} {h : ReadingState} {body : OpenBody} (fed : ℕ) → Continues g s (begun budget p) t h [] → h.open_body ≡ Some body → fed ≡ length p → IsTaken g s (means budget p) t (Some (refusal Unended fed))
body_ended {g = g} {s = s} budget p {t} {body = body} fed k opened all =
    let o : Outcome = begun budget p in
    let live = leads_unrefused k in
    let still = run_still k (λ none. let bad : Some body ≡ None = sym opened ∙ none in cc) in
    let is : means budget p ≡ record o { refusal = Some (refusal Unended (length p)) } =
    means_settled budget p live (ap (λ (x : Outcome). x.refusal) still ∙ live) ∙ ap (λ (x : Outcome). with_code x (length p) x.unfinished) still
    ∙ ap (with_code o (length p)) (unfinished_is k (Some body) _ opened refl) in
    subst (λ (x : Outcome). IsTaken g s x t (Some (refusal Unended fed))) (sym is) (ap (λ (n : ℕ). Some (refusal Unended n)) (sym all), leads_taken k)

-- The opcode of the open run has acted at the end, and may request that all names are unbound.
pub ends_run : {S : Type 0} {g : Ghosts S} {old new : struct.Machine S g} (clears : Bool) → Lawful g → Executes old new clears → EndsRun old new
ends_run true laws (works, closed, acted) h between s budget p k = acts_at_end budget p k laws (acted h between)
ends_run false laws (works, closed, acted) h between s budget p k = acts_at_end budget p k laws (acted h between)

nothing_more : (xs ys : List Entry) → xs ++ ys ≡ xs → ys ≡ []
nothing_more xs ys e = nil_from_length ys (omega (arith, ap length e, length-append xs ys))

pub same_first : (o : Outcome) → Begins o o
same_first o = ([], sym (append-nil o.entries))

pub run_first : (o : Outcome) (u : Option Unfinished) → Begins o (model.with_run_by o u)
run_first o (Some (model.open_run op place run)) = drawn (rule o.machine.work op run)
  where
    drawn : (by : Result RuleResult DrawFault) → Begins o (model.with_drawn o place by)
    drawn (Ok d) = (d.entries, refl)
    drawn (Err fault) = same_first o
run_first o _ = same_first o

pub closed_first : (o : Outcome) (b : ℕ) → Begins o (closed_by o b)
closed_first o b = at (is_operand_byte b)
  where
    at : (word : Bool) → Begins o (cond word o (with_run o))
    at true = same_first o
    at false = run_first o o.unfinished

-- What breaks with the byte after p, as a caller sees it.

-- a byte needs memory of the reader's own
pub own_breaks : {S : Type 0} {g : Ghosts S} {s u : S} {r : Refusal} (budget : ℕ) (p : List ℕ) (b : ℕ) → r.place ≡ length p → WantsMemory budget p b → BreaksWith g s budget p b u (cause_of r.fault) → BreaksAtByte g s budget p b u r
own_breaks budget p b place needs part = grind arith

-- nothing that is open grows
grows_none : (h : ReadingState) (x : Placed) → h.open_body ≡ None → h.open_run ≡ None → GrowsOpen h x → ⊥
grows_none h x no_body closed grows = grind arith

-- a byte breaks at its own place, where a sink has the entries known once the byte shows whether a run is over
breaks_at_byte : {S : Type 0} {g : Ghosts S} {s t u : S} {h : ReadingState} {done owed known : List Entry} {r : Refusal} {budget : ℕ} {p : List ℕ} (b : ℕ) → Lawful g → Known g s done t → known ≡ done ++ owed → Leads (begun budget (p ++ b ∷ [])) known h (placed_at b (length p) ∷ []) →
    known ≡ (closed_by (begun budget p) b).entries → h.machine.left ≡ (begun budget p).machine.left → (GrowsOpen h (placed_at b (length p)) → WantsMemory budget p b) → BreaksHere g t owed h (placed_at b (length p)) u r → BreaksAtByte g s budget p b u r
breaks_at_byte {S} {g} {s} {t} {u} {h} {done} {owed} {known} {r} {budget} {p} b laws has is more same left grows breaks = by breaks.why
  where
    after : Leads (begun budget (p ++ b ∷ [])) (known ++ breaks.adds) breaks.after (breaks.came ++ [])
    after = breaks.passes known [] (begun budget (p ++ b ∷ [])) [] more

    part : TookPart g s known breaks.adds u (cause_of r.fault)
    part = part_known u owed breaks.adds _ laws has is breaks.part

    between : breaks.came ≡ [] → BreaksBetween g s (closed_by (begun budget p) b) (begun budget (p ++ b ∷ [])) u (cause_of r.fault)
    between none =
        let last = subst (λ (came : List Placed). Leads (begun budget (p ++ b ∷ [])) (known ++ breaks.adds) breaks.after (came ++ [])) none after in
        record {
          more = breaks.adds;
          adds = leads_entries last ∙ sym last.taken ∙ ap (λ (es : List Entry). es ++ breaks.adds) same;
          unrefused = leads_unrefused last;
          part = subst (λ (es : List Entry). TookPart g s es breaks.adds u (cause_of r.fault)) same part;
        }

    charged : breaks.after.machine.left < h.machine.left → IsCharged budget p b
    charged few = let falls = leads_left after in omega (arith, falls, few, left)

    from : BreaksFrom g s (begun budget p).entries (begun budget (p ++ b ∷ [])) u (cause_of r.fault)
    from =
        let first = closed_first (begun budget p) b in
        breaks_longer (begun budget p).entries first.0 (subst (λ (es : List Entry). BreaksFrom g s es (begun budget (p ++ b ∷ [])) u (cause_of r.fault)) (same ∙ first.1) (part_from g s u known breaks.adds _ after part))

    by : LacksOwn h (placed_at b (length p)) breaks.after breaks.came ⊎ ((breaks.came ≡ []) × (breaks.adds ≢ []) × (cause_of r.fault ≡ memory → g.wants t (owed ++ breaks.adds))) → BreaksAtByte g s budget p b u r
    by (inl (inl few)) = own_breaks budget p b breaks.place (inr (inr (charged few))) (inr (charged few, from))
    by (inl (inr (none, grow))) = own_breaks budget p b breaks.place (grows grow) (inl (between none))
    by (inr (none, some, wants)) =
        let adds = (between none).adds in
        let joined = ap (λ (es : List Entry). done ++ es) (append-nil (owed ++ breaks.adds)) ∙ sym (append_assoc done owed breaks.adds) ∙ ap (λ (es : List Entry). es ++ breaks.adds) (sym is ∙ same) in
        record {
          place = breaks.place;
          adds_entries = inr (inl (λ e. some (nothing_more (closed_by (begun budget p) b).entries breaks.adds (sym adds ∙ e))));
          wants = λ memory. inr (subst (g.wants s) (joined ∙ sym adds) (laws.wants s t done (owed ++ breaks.adds) [] has.taken (wants memory)));
          part = inl (between none);
        }

-- the byte of the input after p breaks
module _ {S : Type 0} {g : Ghosts S} {s : S} {t : S} {owed : List Entry} {h : ReadingState} (budget : ℕ) (p : List ℕ) (b : ℕ) (laws : Lawful g) (k : Owes g s (begun budget p) t owed h []) where
  further : Leads (begun budget (p ++ b ∷ [])) (k.done ++ owed) h (placed_at b (length p) ∷ [])
  unfolding placed_from
  further = leads_more budget p (b ∷ []) (as_list k)

  still : (test : Bool) → (test ≡ true) ⊎ (h.open_body ≡ None → h.open_run ≡ None) → begun budget p ≡ cond test (begun budget p) (with_run (begun budget p))
  still true closing = refl
  still false (inl word) = let bad : ⊥ = cc in absurd bad
  still false (inr closed) = sym (run_still (as_list k) closed)

  grows : GrowsOpen h (placed_at b (length p)) → WantsMemory budget p b
  grows (inl (open_run, no_body, is, word)) = inl (word, rw (open_place_is (as_list k) open_run no_body is) refl)
  grows (inr (body, opened)) = inr (inl (unfinished_is (as_list k) (Some body) _ opened refl))

  pub breaks_byte : {u : S} {r : Refusal} → cause_of r.fault ≢ stream → Breaks g t owed h (placed_at b (length p)) u r → BreaksAt g s budget p b u r
  breaks_byte {u} broke (in_run none other stops) =
      let paid = subst (λ (es : List Entry). Owes g s (begun budget p) t es h []) none k in
      let (drawn, by, part) = rule_part g t _ _ stops.fault stops.drew (λ own. broke (ap (λ (r : Refusal). cause_of r.fault) stops.why ∙ own)) in
      inl (other, run_begins budget p stops.between stops.is paid b other by, run_breaks budget p paid laws stops broke)
  breaks_byte broke (at_byte closing breaks) =
      inr (breaks_at_byte b laws (record { taken = k.taken; clear = k.clear }) refl further (sym (leads_entries (as_list k)) ∙ ap (λ (o : Outcome). o.entries) (still (is_operand_byte b) closing)) (sym (ap (λ (m : Machine). m.left) (leads_machine k))) grows breaks)
  breaks_byte broke (after_run none v h' other acts breaks) =
      let es = acts.drawn.entries in
      let ended : (with_run (begun budget p)).entries ≡ (closed_by (begun budget p) b).entries = rw other refl in
      inr (breaks_at_byte {done = k.done ++ es} {owed = []} b laws (record { taken = laws.more s t v k.done es k.taken acts.took; clear = λ clear. acts.clear (k.clear clear) }) (simp (none, append-nil)) (passes_run list_more acts other refl (λ clear. clear) further)
      (ap (λ (known : List Entry). known ++ es) (sym (leads_entries (as_list k))) ∙ sym (ap (λ (o : Outcome). o.entries) (run_at_end budget p acts.between acts.is (as_list k) acts.by)) ∙ ended)
      (ap (λ (h : ReadingState). h.machine.left) acts.holds ∙ sym (ap (λ (m : Machine). m.left) (leads_machine k)))
      (λ grow. absurd (grows_none h' (placed_at b (length p)) (ap (λ (h : ReadingState). h.open_body) acts.holds ∙ acts.between) (ap (λ (h : ReadingState). h.open_run) acts.holds) grow)) breaks)

-- a byte of a body breaks

breaks_here_inside : {S : Type 0} {g : Ghosts S} {s t u : S} {o : Outcome} {owed : List Entry} {h : ReadingState} {x : Placed} {pending : List Placed} {r : Refusal} → Lawful g → Owes g s o t owed h (x ∷ pending) → BreaksHere g t owed h x u r → BreaksFrom g s [] o u (cause_of r.fault)
breaks_here_inside {g = g} {s = s} {u = u} {o = o} {owed = owed} {pending = pending} laws k breaks =
    breaks_longer [] (k.done ++ owed) (part_from g s u (k.done ++ owed) breaks.adds _ (breaks.passes (k.done ++ owed) [] o pending (as_list k)) (part_known u owed breaks.adds _ laws (record { taken = k.taken; clear = k.clear }) refl breaks.part))

pub breaks_inside : {S : Type 0} {g : Ghosts S} {s t u : S} {o : Outcome} {owed : List Entry} {h : ReadingState} {x : Placed} {pending : List Placed} {r : Refusal} → Lawful g → Owes g s o t owed h (x ∷ pending) → cause_of r.fault ≢ stream → Breaks g t owed h x u r → BreaksFrom g s [] o u (cause_of r.fault)
breaks_inside {g = g} {s = s} {t = t} {u = u} {o = o} {owed = owed} laws k broke (in_run none other stops) =
    let (drawn, by, part) = rule_part g t u _ stops.fault stops.drew (λ own. broke (ap (λ (r : Refusal). cause_of r.fault) stops.why ∙ own)) in
    let past = pays (run_past stops.between stops.is (as_list k) other drawn by) list_more refl (λ clear. clear) in
    subst (λ (r : Refusal). BreaksFrom g s [] o u (cause_of r.fault)) (sym stops.why)
    (breaks_longer [] (k.done ++ owed) (part_from g s u (k.done ++ owed) drawn.entries _ past (part_known u [] drawn.entries _ laws (record { taken = k.taken; clear = k.clear }) (ap (λ (es : List Entry). k.done ++ es) none) part)))
breaks_inside laws k broke (at_byte closing breaks) = breaks_here_inside laws k breaks
breaks_inside {g = g} {s = s} {t = t} {o = o} {h = h} {x = x} {pending = pending} laws k broke (after_run none v h' other acts breaks) =
    breaks_here_inside laws (passes_run laws.more acts other acts.took acts.clear (subst (λ (es : List Entry). Owes g s o t es h (x ∷ pending)) none k)) breaks

-- the place where reading breaks
pub breaks_place : {S : Type 0} {g : Ghosts S} {t : S} {owed : List Entry} {h : ReadingState} {x : Placed} {u : S} {r : Refusal} (n : ℕ) → x.place ≡ n → RunAt n h.open_run → Breaks g t owed h x u r → r.place ≡ n
breaks_place n here run breaks = grind arith

-- The place where reading breaks: a body is charged there, or the stream refuses nothing.
module _ {S : Type 0} (g : Ghosts S) (s : S) (budget : ℕ) (p : List ℕ) (b : ℕ) (t : S) (r : Refusal) where
  pub breaks_there : BreaksAt g s budget p b t r → CanBreakAt budget p b r.place
  breaks_there breaks = grind arith

  -- whether the reader itself lacked memory, and where, or its sink did
  pub lacks_there : BreaksAt g s budget p b t r → cause_of r.fault ≡ memory → CanLackAt budget p b r.place ⊎ g.wants s (begun budget (p ++ b ∷ [])).entries
  lacks_there breaks is = grind arith
