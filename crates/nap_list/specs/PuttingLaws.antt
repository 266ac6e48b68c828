use Rattle.std.proofs.Common.{◌≡◌, ℕ, ◌+◌, length, ◌⊎◌, List, [], ◌∷◌, ◌++◌, true, false, Result, Ok, Err, IsErrOf, OnOk, inl, inr, refl, sym, ◌∙◌, ap, subst, append-nil, append_assoc, length-append, length-drop, take, drop, ◌<◌, arith}
use Rattle.std.proofs.lemmas.Bool.{false_from_ne_true, true_from_ne_false, cases_Bool}
use Rattle.std.proofs.lemmas.List.{take-append-drop, length-take-le, take_all}
use Rattle.std.specs.Result.{IsErrAnd}
use Rattle.nap_list.specs.{Types.Entry, Types.SinkFault, Types.State, declared.sink.BatchFault.BatchFault, State.Fits, State.AllFit, State.after, State.walk, Walks.walks_join, Walks.fits_join}
use Rattle.nap_list.specs.declared.sink.SinkFault.TheVariants.{Memory, Write}
use Rattle.nap_list.specs.Putting.{SinkModel, Put, PutSome, Putting, StopsAmid, BreaksAmid, StopsAfter, HaltsAfter, TakesAll, TookMore, TookBroke, WantsMore, NotTaken, UnlessAll}

-- Laws about what a sink took of a list, part by part.

module _ {S : Type 0} (g : SinkModel S) where
  -- nothing of the list was put yet
  pub put_begins : (s : S) (whole : List Entry) → g.took s [] s → Putting g s s whole whole
  unfolding walk
  put_begins s whole none = record { done = []; parts = refl; taken = none; state = refl; same = λ _. refl; none = λ _. (refl, refl) }

  module _ (s t : S) (whole list : List Entry) (putting : Putting g s t whole list) where
    -- the list is its two parts joined
    parts_are : (prefix rest : List Entry) → list ≡ prefix ++ rest → whole ≡ putting.done ++ (prefix ++ rest)
    parts_are prefix rest is = putting.parts ∙ ap (λ (list : List Entry). putting.done ++ list) is

    -- the rest of the list fits
    pub rest_fits : AllFit (g.state s) whole → AllFit (g.state t) list
    rest_fits fit =
        let all : AllFit (g.state s) (putting.done ++ list) = subst (AllFit (g.state s)) putting.parts fit in
        subst (λ (t : State). AllFit t list) (sym putting.state) ((fits_join (g.state s) putting.done list).0 all).1

    -- a sink whose device had failed has taken nothing
    still_failed : g.failed s ≡ true → g.failed t ≡ true
    still_failed set = ap g.failed (putting.none set).1 ∙ set

    -- where the device has failed, the sink has taken nothing
    none_done : g.failed t ≡ true → (g.failed s ≡ true) × (putting.done ≡ []) × (t ≡ s)
    none_done set =
        let before = ap g.failed (sym (putting.same set)) ∙ set in
        let none = putting.none before in
        (before, none.0, none.1)

    -- a prefix of the rest was taken
    pub put_goes : TookMore g → (u : S) (prefix rest : List Entry) → list ≡ prefix ++ rest → TakesAll g prefix t u → Putting g s u whole rest
    put_goes law u prefix rest is takes = record {
      done = putting.done ++ prefix;
      parts = parts_are prefix rest is ∙ sym (append_assoc putting.done prefix rest);
      taken = law s t u putting.done prefix putting.taken takes.took;
      state = takes.state ∙ ap (λ (t : State). walk t prefix) putting.state ∙ sym (walks_join (g.state s) putting.done prefix);
      same = λ set. let h = true_from_ne_false (g.failed t) (λ clear. cc (takes.works clear)) in (takes.none h).1 ∙ putting.same h;
      none = λ set. let none = putting.none set in let now = takes.none (still_failed set) in (ap (λ (d : List Entry). d ++ prefix) none.0 ∙ now.0, now.1 ∙ none.1);
    }

    module _ (more : TookMore g) (law : TookBroke g) (wants : WantsMore g) (u : S) where
      halts : (n : ℕ) (fault : SinkFault) → HaltsAfter g list t u n fault → HaltsAfter g whole s u (length putting.done + n) fault
      halts n Memory stops = record {
        prefix = putting.done ++ stops.prefix;
        next = stops.next;
        rest = stops.rest;
        parts = parts_are stops.prefix (stops.next ∷ stops.rest) stops.parts ∙ sym (append_assoc putting.done stops.prefix (stops.next ∷ stops.rest));
        count = length-append putting.done stops.prefix ∙ ap (λ (n : ℕ). length putting.done + n) stops.count;
        taken = more s t u putting.done stops.prefix putting.taken stops.taken;
        wants = subst (g.wants s) (ap (λ (d : List Entry). putting.done ++ d) (append-nil (stops.prefix ++ stops.next ∷ [])) ∙ sym (append_assoc putting.done stops.prefix (stops.next ∷ [])))
            (wants s t putting.done (stops.prefix ++ stops.next ∷ []) [] putting.taken stops.wants);
      }
      halts n Write (inl still) = let none = none_done still.0 in inl (none.0, still.1 ∙ none.2, omega (arith, still.2, ap length none.1))
      halts n Write (inr breaks) = inr (record {
        prefix = putting.done ++ breaks.prefix;
        next = breaks.next;
        rest = breaks.rest;
        parts = parts_are breaks.prefix (breaks.next ∷ breaks.rest) breaks.parts ∙ sym (append_assoc putting.done breaks.prefix (breaks.next ∷ breaks.rest));
        count = length-append putting.done breaks.prefix ∙ ap (λ (n : ℕ). length putting.done + n) breaks.count;
        broken = law s t u putting.done breaks.prefix breaks.next putting.taken breaks.broken;
      })

      -- the putting of the rest halted
      pub put_halts : (n : ℕ) (fault : SinkFault) → Put g list t u (Err (record { taken = n; fault = fault })) →
          Put g whole s u (Err (record { taken = length putting.done + n; fault = fault }))
      put_halts n fault put = (
        halts n fault put.0,
        record {
          write = put.1.write;
          memory = put.1.memory;
          none = λ set.
              let none = putting.none set in
              let now = put.1.none (still_failed set) in
              (now.0, now.1 ∙ none.1, omega (arith, now.2, ap length none.0));
        },
      )

    -- all of the list was put
    pub put_ends : list ≡ [] → TakesAll g whole s t
    put_ends is =
        let all = sym (parts_are [] [] is ∙ append-nil putting.done) in
        record {
          took = subst (λ (list : List Entry). g.took s list t) all putting.taken;
          state = putting.state ∙ ap (walk (g.state s)) all;
          works = λ clear. false_from_ne_true (g.failed t) (λ h. cc (ap g.failed (putting.same h)));
          none = λ set. let none = putting.none set in (sym all ∙ none.0, none.1);
        }

  -- one entry was taken
  pub takes_one : (t u : S) (x : Entry) → g.took t (x ∷ []) u → g.state u ≡ after (g.state t) x → (g.failed u ≡ true → IsErrOf {T = Unit {0}} (Ok tt) Write) →
      (g.failed t ≡ true → IsErrOf {T = Unit {0}} (Ok tt) Write) → TakesAll g (x ∷ []) t u
  unfolding walk
  takes_one t u x took state only refuses = record {
    took = took;
    state = state;
    works = λ _. false_from_ne_true (g.failed u) (λ h. cc (only h));
    none = λ set. cc (refuses set);
  }

  -- the first entry of a list wasn't taken
  pub stops_at_first : (t u : S) (x : Entry) (rest : List Entry) (e : SinkFault) → g.took t [] t → NotTaken g t u x e → Put g (x ∷ rest) t u (Err (record { taken = 0; fault = e }))
  stops_at_first t u x rest Memory none put = (
    record { prefix = []; next = x; rest = rest; parts = refl; count = refl; taken = subst (g.took t []) (sym (put.memory refl)) none; wants = put.wants refl },
    record {
      write = λ e. cc;
      memory = λ _. false_from_ne_true (g.failed u) (λ h. cc (put.only_write h));
      none = λ set. cc (put.refuses set);
    },
  )
  stops_at_first t u x rest Write none put = (
    elim (cases_Bool (g.failed t)) [
      | inl h ↦ inl (h, put.still refl h, refl)
      | inr h ↦ inr (record { prefix = []; next = x; rest = rest; parts = refl; count = refl; broken = put.broke refl h })
    ],
    record { write = λ _. put.write refl; memory = λ e. cc; none = λ set. (refl, put.still refl set, refl) },
  )

  -- the error has the number of entries taken
  pub some_put : (A : Type 0) (s t : S) (list : List Entry) (n : ℕ) (fault : SinkFault) → Put g list s t (Err (record { taken = n; fault = fault })) → PutSome {A = A} g list s t (Err fault)
  some_put A s t list n fault put = (n, put.0, put.1)

  -- memory ran out after the first entries of a list, with a sink whose device hasn't failed
  pub stops_after : (s t : S) (list : List Entry) (n : ℕ) → n < length list → g.failed s ≡ false → g.failed t ≡ false → g.took s (take n list) t →
      ((x : Entry) → g.wants s (take n list ++ x ∷ [])) → Put g list s t (Err (record { taken = n; fault = Memory }))
  stops_after s t list n less clear works took wants = (
    by (drop n list) (sym (take-append-drop n list)),
    record { write = λ e. cc; memory = λ _. works; none = λ set. cc },
  )
    where
      size : length (take n list) ≡ n
      size = length-take-le n list (omega arith)

      by : (rest : List Entry) → list ≡ take n list ++ rest → StopsAfter g s list n t
      by [] is = absurd (omega (arith, size, ap length is, length-append (take n list) []))
      by (x ∷ rest) is = record { prefix = take n list; next = x; rest = rest; parts = is; count = size; taken = took; wants = wants x }

  -- the first entries of a list were taken, by a sink whose device hasn't failed
  pub some_taken : (s t : S) (list : List Entry) (n : ℕ) (r : Result (Unit {0}) BatchFault) → UnlessAll n (length list) r → g.failed s ≡ false → g.failed t ≡ false →
      g.took s (take n list) t → g.state t ≡ walk (g.state s) (take n list) → (n < length list → (x : Entry) → g.wants s (take n list ++ x ∷ [])) → Put g list s t r
  some_taken s t list n (Ok x) most clear works took state wants =
      let all = take_all n list most in
      record {
        took = subst (λ (list : List Entry). g.took s list t) all took;
        state = state ∙ ap (walk (g.state s)) all;
        works = λ _. works;
        none = λ set. cc;
      }
  some_taken s t list n (Err stop) ends clear works took state wants =
      subst (λ (stop : BatchFault). Put g list s t (Err stop)) (sym ends.0) (stops_after s t list n ends.1 clear works took (wants ends.1))

  -- after the first entries of a list, the next one wasn't taken
  pub next_stops : (s t : S) (whole : List Entry) (n : ℕ) → n < length whole → Putting g s t whole (drop n whole) → g.took t [] t → TookMore g → TookBroke g → WantsMore g →
      (u : S) (x : Entry) (rest : List Entry) (e : SinkFault) → drop n whole ≡ x ∷ rest → NotTaken g t u x e → Put g whole s u (Err (record { taken = n; fault = e }))
  next_stops s t whole n less putting none more law wants u x rest e is put =
      let first = subst (λ (list : List Entry). Put g list t u (Err (record { taken = 0; fault = e }))) (sym is) (stops_at_first t u x rest e none put) in
      let halts = put_halts s t whole (drop n whole) putting more law wants u 0 e first in
      subst (λ (n : ℕ). Put g whole s u (Err (record { taken = n; fault = e }))) count halts
    where
      count : length putting.done + 0 ≡ n
      count = omega (arith, less, ap length putting.parts, length-append putting.done (drop n whole), length-drop n whole)

  -- one more entry was put
  pub one_goes : (s t : S) (whole list : List Entry) → Putting g s t whole list → TookMore g → (u : S) (x : Entry) (rest : List Entry) → list ≡ x ∷ rest →
      g.took t (x ∷ []) u → g.state u ≡ after (g.state t) x → (g.failed u ≡ true → IsErrOf {T = Unit {0}} (Ok tt) Write) →
      (g.failed t ≡ true → IsErrOf {T = Unit {0}} (Ok tt) Write) → Putting g s u whole rest
  one_goes s t whole list putting more u x rest is took state only refuses = put_goes s t whole list putting more u (x ∷ []) rest is (takes_one t u x took state only refuses)

  -- one more entry wasn't taken
  pub one_stops : (A : Type 0) (s t : S) (whole list : List Entry) → Putting g s t whole list → g.took t [] t → TookMore g → TookBroke g → WantsMore g →
      (u : S) (x : Entry) (rest : List Entry) (e : SinkFault) → list ≡ x ∷ rest → NotTaken g t u x e → PutSome {A = A} g whole s u (Err e)
  one_stops A s t whole list putting none more law wants u x rest e is put =
      let first = subst (λ (list : List Entry). Put g list t u (Err (record { taken = 0; fault = e }))) (sym is) (stops_at_first t u x rest e none put) in
      let halts = put_halts s t whole list putting more law wants u 0 e first in
      some_put A s u whole (length putting.done + 0) e halts

  -- an error without the number of entries taken

  pub some_stops : (A : Type 0) (s t : S) (list : List Entry) → PutSome {A = A} g list s t (Err Memory) → StopsAmid g.took s list t
  some_stops A s t list put = let stops = put.1 in (stops.prefix, stops.next, stops.rest, stops.parts, stops.taken)

  pub some_wants : (A : Type 0) (s t : S) (list : List Entry) → g.took s [] s → WantsMore g → PutSome {A = A} g list s t (Err Memory) → g.wants s list
  some_wants A s t list none wants put =
      let stops = put.1 in
      subst (g.wants s) (append_assoc stops.prefix (stops.next ∷ []) stops.rest ∙ sym stops.parts) (wants s s [] (stops.prefix ++ stops.next ∷ []) stops.rest none stops.wants)

  pub some_breaks : (A : Type 0) (s t : S) (list : List Entry) → PutSome {A = A} g list s t (Err Write) → ((g.failed s ≡ true) × (t ≡ s)) ⊎ BreaksAmid g.broke s list t
  some_breaks A s t list put = by put.1
    where
      by : HaltsAfter g list s t put.0 Write → ((g.failed s ≡ true) × (t ≡ s)) ⊎ BreaksAmid g.broke s list t
      by (inl still) = inl (still.0, still.1)
      by (inr breaks) = inr (breaks.prefix, breaks.next, breaks.rest, breaks.parts, breaks.broken)

  -- the next entry fits
  pub one_fits : (s t : S) (whole list rest : List Entry) (x : Entry) → Putting g s t whole list → list ≡ x ∷ rest → AllFit (g.state s) whole → Fits (g.state t) x
  unfolding AllFit
  one_fits s t whole list rest x putting is fit = (subst (AllFit (g.state t)) is (rest_fits s t whole list putting fit)).0

  -- one entry was put alone
  pub one_put : (s t : S) (x : Entry) (r : Result (Unit {0}) SinkFault) → g.took s [] s → OnOk r (g.took s (x ∷ []) t) → OnOk r (g.state t ≡ after (g.state s) x) →
      (IsErrOf r Memory → t ≡ s) → (IsErrOf r Memory → g.wants s (x ∷ [])) → (g.failed s ≡ true → IsErrOf r Write) → (IsErrOf r Write → g.failed t ≡ true) →
      (g.failed t ≡ true → IsErrOf r Write) → (IsErrOf r Write → g.failed s ≡ false → g.broke s [] x t) → (IsErrOf r Write → g.failed s ≡ true → t ≡ s) → PutSome g (x ∷ []) s t r
  one_put s t x (Ok _) none took state memory wants refuses write only broke still = takes_one s t x took state only refuses
  one_put s t x (Err e) none took state memory wants refuses write only broke still =
      let put : NotTaken g s t x e = record { memory = memory; wants = wants; refuses = refuses; write = write; only_write = only; broke = broke; still = still } in
      some_put (Unit {0}) s t (x ∷ []) 0 e (stops_at_first s t x [] e none put)

  -- memory ran out for one entry, with a sink whose device hasn't failed
  pub wanting_put : (s : S) (x : Entry) (r : Result (Unit {0}) SinkFault) → IsErrAnd r (λ fault. fault ≡ Memory) → g.took s [] s → g.failed s ≡ false → g.wants s (x ∷ []) →
      PutSome g (x ∷ []) s s r
  wanting_put s x (Ok _) is none works wants = absurd is
  wanting_put s x (Err fault) is none works wants =
      let not : NotTaken g s s x Memory = record {
        memory = λ _. refl;
        wants = λ _. wants;
        refuses = λ set. cc;
        write = λ e. cc;
        only_write = λ set. cc;
        broke = λ e. cc;
        still = λ _ _. refl;
      } in
      subst (λ (fault : SinkFault). PutSome {A = Unit {0}} g (x ∷ []) s s (Err fault)) (sym is) (some_put (Unit {0}) s s (x ∷ []) 0 Memory (stops_at_first s s x [] Memory none not))

  -- a list was put after what was put
  pub rest_put : (A : Type 0) (s t : S) (whole list : List Entry) → Putting g s t whole list → TookMore g → TookBroke g → WantsMore g → (u : S) (r : Result A SinkFault) →
      PutSome g list t u r → PutSome g whole s u r
  rest_put A s t whole list putting more law wants u (Ok _) put = put_ends s u whole [] (put_goes s t whole list putting more u list [] (sym (append-nil list)) put) refl
  rest_put A s t whole list putting more law wants u (Err e) put =
      some_put A s u whole (length putting.done + put.0) e (put_halts s t whole list putting more law wants u put.0 e (put.1, put.2))
