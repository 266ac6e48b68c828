use Rattle.nap_draw.proofs.{Acts, ActsByRule, ActsFully, AllFit, AppliesControl, Arrives, Base, Bool, Cause, Colour, Coordinates, Course, Displacement, Displaces, DrawFault, Drawing, DrawsBy, Entry, Err, Figure, Filling, Fills, Ghosts, GivesSome, Holding, IfErr, IfOk, IfSome, InMode, IsErrAnd, IsErrOf, LacksPlaces, List, Memory, None, Ok, OnErr, Opcode, Option, Outcome, Outside, PutsList, Result, Results.end_after, RuleRefuses, RuleResult, Runs.IsChunk, Runs.bytes_none, Runs.bytes_turn, SetsWork, SinkFault, Some, Span, State, StatesAgree, TakesAll, Trail, Vec, Walks.Lands, Walks.draws_end, Walks.line_lands, Walks.point_lands, WantsBy, WantsMore, Work, [], add-one, after, ap, append-nil, append_assoc, arith, base_after, clears_nothing, cond, cons_if_all, corner, displaced_point, draw_cause, drop, drop-cons, entries_result, false, fault_of, figure_entry, get_or, ink_of, inl, is_err, is_ok, is_some, last_or, length, length-append, length-drop, length-map, map, moves, multi_of, operand_words, option_map, pair_spans, point_at, point_entry, points_at, points_reached, polyline_entries, polyline_spans, rect_chain_spans, rect_on, rect_spans, refl, relative_spans, rule, rule_result, sink_model_of, slice_index, some_stops, some_wants, span_by, span_ends, span_line_entry, stream, subst, suc, sym, take, trail_entry, trail_result, true, unwrap_or, vec_capacity, vec_len, walk, with_pen_moved_to, ℕ, ◌&&◌, ◌*◌, ◌++◌, ◌+◌, ◌-◌, ◌/◌, ◌<◌, ◌||◌, ◌∙◌, ◌∷◌, ◌≡◌, ◌≢◌, ◌≤◌}

-- The steps in which a code is executed, put together.

-- what holds of a fault holds of the result that `?` makes of it
pub passed : {A : Type 0} (P : Result A DrawFault → Type 0) (fault : DrawFault) (r : Result A DrawFault) → IsErrAnd r (λ e. e ≡ fault) → P (Err fault) → P r
passed P fault r h h2 = grind arith

-- the rule refuses the code
pub sets_refused : (by : Outcome) (w : Work) (fault : DrawFault) (r : Result (Unit {0}) DrawFault) → IsErrAnd r (λ e. e ≡ fault) → draw_cause fault ≡ stream → by ≡ Err fault →
    SetsWork by w w r
sets_refused by w fault r is cause refused = passed (SetsWork by w w) fault r is (refl, subst (RuleRefuses by fault) (sym cause) refused)

module _ {S : Type 0} (g : Ghosts S) (s : S) (none : g.took s [] s) where
  drawn_not : (by : Outcome) (fault : DrawFault) (cause : Cause) → RuleRefuses by fault cause → DrawsBy g.took g.broke g.failed by s s fault cause
  drawn_not by fault cause h = grind arith

  never_device : (by : Outcome) (fault : DrawFault) → RuleRefuses by fault (draw_cause fault) → fault ≡ DrawFault.Sink → g.failed s ≡ true
  never_device by fault refused is = absurd (subst (λ (fault : DrawFault). RuleRefuses by fault (draw_cause fault)) is refused)

  never_memory : (by : Outcome) (fault : DrawFault) → RuleRefuses by fault (draw_cause fault) → fault ≡ Memory → ⊥
  never_memory by fault refused is = subst (λ (fault : DrawFault). RuleRefuses by fault (draw_cause fault)) is refused

  still : (fault : DrawFault) → g.failed s ≡ false → g.failed s ≡ true → fault ≡ DrawFault.Sink
  still fault clear failed = absurd (cc)

  -- an opcode that puts nothing
  pub sets_does : (short : Type 0) (by : Outcome) (w v : Work) (r : Result (Unit {0}) DrawFault) → SetsWork by w v r → ActsByRule g clears_nothing short by w v s s r
  unfolding walk
  sets_does short by w v r h = grind (arith, drawn_not, never_device, still, never_memory)

  -- the rule's row is that of the opcode
  pub sets_acts : (short : Type 0) (w v : Work) {op row : Opcode} (run : List ℕ) (r : Result (Unit {0}) DrawFault) → op ≡ row → SetsWork (rule w row run) w v r → ActsByRule g clears_nothing short (rule w op run) w v s s r
  sets_acts short w v {op} run r is sets = sets_does short (rule w op run) w v r (subst (λ (op : Opcode). SetsWork (rule w op run) w v r) (sym is) sets)

  pub does_refused : (short : Type 0) {by : Outcome} (w : Work) {fault : DrawFault} (r : Result (Unit {0}) DrawFault) → IsErrAnd r (λ e. e ≡ fault) → draw_cause fault ≡ stream → by ≡ Err fault →
      ActsByRule g clears_nothing short by w w s s r
  does_refused short {by} w {fault} r is cause refused = sets_does short by w w r (sets_refused by w fault r is cause refused)

  -- a run wasn't decoded
  unfilled : {A : Type 0} (short : Type 0) (by : Outcome) (w : Work) (all : Option (List A)) (fault : DrawFault) (f : Option (List A) → Outcome) →
      by ≡ f all → f None ≡ Err Outside → ((xs : List A) → (d : RuleResult) × (f (Some xs) ≡ Ok d)) → Fills all [] (Err fault) → (fault ≡ Memory → short) →
      ActsByRule {A = Unit {0}} g clears_nothing short by w w s s (Err fault)
  unfilled short by w all Outside f is outside inside fills lacks =
      (refl, (is ∙ (ap f fills ∙ outside), refl), λ e. absurd (cc), λ clear failed. absurd (cc), λ e. absurd (cc))
  unfilled short by w all Memory f is outside inside fills lacks =
      let made = inside fills.0 in
      (refl, (made.0, is ∙ (ap f fills.1 ∙ made.1), inl refl), λ e. absurd (cc), λ clear failed. absurd (cc), λ _. inl (lacks refl))
  unfilled short by w all _ f is outside inside fills lacks = absurd fills

  pub does_unfilled : {A : Type 0} (short : Type 0) {by : Outcome} (w : Work) (all : Option (List A)) (fault : DrawFault) (r : Result (Unit {0}) DrawFault) →
      IsErrAnd r (λ e. e ≡ fault) → (f : Option (List A) → Outcome) → by ≡ f all → f None ≡ Err Outside → ((xs : List A) → (d : RuleResult) × (f (Some xs) ≡ Ok d)) →
      Fills all [] (Err fault) → (fault ≡ Memory → short) → ActsByRule g clears_nothing short by w w s s r
  does_unfilled short {by} w all fault r is f acts outside inside fills lacks = passed (ActsByRule g clears_nothing short by w w s s) fault r is (unfilled short by w all fault f acts outside inside fills lacks)

module _ {S : Type 0} (g : Ghosts S) where
  -- the rule's entries were put
  pub does_put : {A : Type 0} (clears : A → Bool) (short : Type 0) {by : Outcome} (w : Work) {v : Work} (s t : S) {list : List Entry} (x : A) →
      by ≡ Ok (record { entries = list; work = v; clears = clears x }) → PutsList {S = S} {A = Unit {0}} g list s t (Ok tt) → ActsByRule g clears short by w v s t (Ok x)
  does_put clears short w s t {list} x is put = (list, is, put.took, put.state, put.works)

  -- one of the rule's entries wasn't taken
  stopped : {A : Type 0} (clears : A → Bool) (short : Type 0) (by : Outcome) (w : Work) (s t : S) (d : RuleResult) (e : SinkFault) →
      by ≡ Ok d → PutsList {S = S} {A = Unit {0}} g d.entries s t (Err e) → ActsByRule g clears short by w w s t (Err (fault_of e))
  stopped clears short by w s t d e h h2 = grind arith

  pub does_stop : {A : Type 0} (clears : A → Bool) (short : Type 0) {by : Outcome} (w : Work) (s t : S) {d : RuleResult} (e : SinkFault) (r : Result A DrawFault) → IsErrAnd r (λ f. f ≡ fault_of e) →
      by ≡ Ok d → PutsList {S = S} {A = Unit {0}} g d.entries s t (Err e) → ActsByRule g clears short by w w s t r
  does_stop clears short {by} w s t {d} e r is drawn put = passed (ActsByRule g clears short by w w s t) (fault_of e) r is (stopped clears short by w s t d e drawn put)

  -- the code acted by another form of its rule
  pub does_as : {A : Type 0} (clears : A → Bool) (short : Type 0) {by on : Outcome} (w v : Work) (s t : S) (r : Result A DrawFault) → by ≡ on →
      ActsByRule g clears short on w v s t r → ActsByRule g clears short by w v s t r
  does_as clears short w v s t r is does = subst (λ (by : Outcome). ActsByRule g clears short by w v s t r) (sym is) does

  -- the code acted, and could also lack memory for points
  pub does_widely : {A : Type 0} (clears : A → Bool) (short : Type 0) (by : Outcome) (w v : Work) (s t : S) (r : Result A DrawFault) →
      ActsByRule g clears ⊥ by w v s t r → ActsByRule g clears short by w v s t r
  does_widely clears short by w v s t r h = grind arith

  -- the points were decoded into a list, and the rest of the rule was done
  pub does_filled : {A B : Type 0} (short : Type 0) {by : Outcome} (w v : Work) (s t : S) (r : Result (Unit {0}) DrawFault) (f : Option (List A) → Outcome) (list_of : List B → List A)
      {all : Option (List A)} (list points : List B) → by ≡ f all → all ≡ Some (list_of list) → points ≡ list → ActsByRule g clears_nothing ⊥ (f (Some (list_of points))) w v s t r → ActsByRule g clears_nothing short by w v s t r
  does_filled {B = B} short w v s t r f list_of list points is fills same does = grind (arith, does_as, does_widely)

  -- what a code did, as a caller sees it

  pub does_acts : {A : Type 0} (clears : A → Bool) (short : Type 0) {by : Outcome} (w v : Work) (s t : S) (r : Result A DrawFault) →
      ((d : RuleResult) → by ≡ Ok d → AllFit (g.state s) d.entries × StatesAgree d.work.state (walk (g.state s) d.entries)) → ActsByRule g clears short by w v s t r → Acts g clears by w v s t r
  does_acts clears short w v s t (Ok x) fit does =
      let fits = fit _ does.1 in
      (does.0, does.1, does.2, fits.0, subst (λ (u : State). StatesAgree v.state u) (sym does.3) fits.1)
  does_acts clears short w v s t (Err fault) fit does = (does.0, does.1)

-- a character or a control

module _ {S : Type 0} {g : Ghosts S} where
  -- the rule's entries were taken
  pub obeys_fully : {by : Outcome} {w v : Work} {s t : S} → ActsFully g by w v s t → AppliesControl g by w v s t (Ok tt)
  obeys_fully does = grind arith

  pub obeys_put : {by : Outcome} {w v : Work} {s t : S} {list : List Entry} →
      by ≡ Ok (record { entries = list; work = v; clears = false }) → PutsList {S = S} {A = Unit {0}} g list s t (Ok tt) → AppliesControl g by w v s t (Ok tt)
  obeys_put {w = w} is put = obeys_fully (does_put g clears_nothing ⊥ w _ _ (tt {0}) is put)

  pub obeys_stop : {by : Outcome} {w : Work} {s t : S} {d : RuleResult} (e : SinkFault) {r : Result (Unit {0}) DrawFault} → IsErrAnd r (λ f. f ≡ fault_of e) →
      g.took s [] s → WantsMore (sink_model_of g) → by ≡ Ok d → d.entries ≢ [] → PutsList {S = S} {A = Unit {0}} g d.entries s t (Err e) → AppliesControl g by w w s t r
  obeys_stop {by} {w} {s} {t} {d} e {r} is none more drawn some put =
      passed (AppliesControl g by w w s t) (fault_of e) r is (record { does = stopped g clears_nothing ⊥ by w s t d e drawn put; wants = wanting e put; gives = λ _. subst GivesSome (sym drawn) some })
    where
      wanting : (e : SinkFault) → PutsList {S = S} {A = Unit {0}} g d.entries s t (Err e) → IsErrOf {T = Unit {0}} (Err (fault_of e)) Memory → WantsBy g by s t
      wanting SinkFault.Memory put _ = subst (λ (by : Outcome). WantsBy g by s t) (sym drawn) (record { wants = some_wants (sink_model_of g) (Unit {0}) s t d.entries none more put; stops = some_stops (sink_model_of g) (Unit {0}) s t d.entries put })
      wanting SinkFault.Write put e = absurd (cc)

  -- nothing is put
  pub obeys_quietly : {by : Outcome} {w v : Work} {s : S} → g.took s [] s → by ≡ Ok (rule_result v []) → AppliesControl g by w v s s (Ok tt)
  obeys_quietly {w = w} none is = obeys_fully (sets_does g _ none ⊥ _ w _ (Ok tt) is)

-- Lists of points and spans, item by item.

-- The points that operands reach, after one more.

-- the first item is this one
pub cons_if_all_more : {A : Type 0} {l : Option (List A)} {x : Option A} {y : A} (next : A → Option (List A)) →
    l ≡ cons_if_all x next → x ≡ Some y → l ≡ option_map (λ xs. y ∷ xs) (next y)
cons_if_all_more next is first = is ∙ ap (λ o. cons_if_all o next) first

-- the first point is outside the unit screen
pub cons_if_all_none : {A : Type 0} {l : Option (List A)} {x : Option A} (next : A → Option (List A)) → l ≡ cons_if_all x next → x ≡ None → l ≡ None
cons_if_all_none next is first = is ∙ ap (λ o. cons_if_all o next) first

pub points_turn : {ms rest : List Displacement} {m : Displacement} → ms ≡ m ∷ rest → points_at ms ≡ cons_if_all (point_at m) (λ _. points_at rest)
unfolding points_at
points_turn is = ap points_at is

pub reached_turn : (p : Coordinates) {ms rest : List Displacement} {m : Displacement} → ms ≡ m ∷ rest → points_reached p ms ≡ cons_if_all (displaced_point p m) (λ q. points_reached q rest)
unfolding points_reached
reached_turn p is = ap (points_reached p) is

-- a walk that moves by the first displacement, or stays
module _ (old new : Coordinates) {ms rest : List Displacement} {m : Displacement} {r : Option Coordinates} (is : ms ≡ m ∷ rest) (to : r ≡ displaced_point old m) where
  pub moved : new ≡ unwrap_or r old → IfSome r (λ p. points_reached old ms ≡ option_map (λ ps. p ∷ ps) (points_reached new rest))
  moved place = of r refl
    where
      of : (o : Option Coordinates) → r ≡ o → IfSome o (λ p. points_reached old ms ≡ option_map (λ ps. p ∷ ps) (points_reached new rest))
      of None none = tt
      of (Some p) some = cons_if_all_more _ (reached_turn old is) (sym to ∙ some) ∙ ap (λ q. option_map (λ ps. p ∷ ps) (points_reached q rest)) (sym (place ∙ ap (λ o. unwrap_or o old) some))

  pub moved_none : r ≡ None → points_reached old ms ≡ None
  moved_none none = cons_if_all_none _ (reached_turn old is) (sym to ∙ none)

pub across_turn : (p : Coordinates) {ms rest : List Displacement} {m : Displacement} → ms ≡ m ∷ rest →
    rect_chain_spans p ms ≡ cons_if_all (span_by (Some p) m) (λ s. rect_chain_spans (corner s.from s.to) rest)
unfolding rect_chain_spans
across_turn p is = ap (rect_chain_spans p) is

-- there is only one item
pub across_once : (p : Coordinates) (ms : List Displacement) (m : Displacement) (o : Option Coordinates) → ms ≡ m ∷ [] → displaced_point p m ≡ o →
    rect_chain_spans p ms ≡ option_map (λ q. rect_spans p (q ∷ [])) o
unfolding rect_chain_spans rect_spans
across_once p ms m o h h2 = grind (arith, across_turn)

pub away_lacks : {ms rest : List Displacement} {m : Displacement} → ms ≡ m ∷ rest → rest ≡ [] → relative_spans ms ≡ None
unfolding relative_spans
away_lacks {m = m} is none = ap relative_spans (is ∙ ap (λ xs. m ∷ xs) none)

pub away_turn : {ms more rest : List Displacement} {m n : Displacement} → ms ≡ m ∷ more → more ≡ n ∷ rest →
    relative_spans ms ≡ cons_if_all (span_by (point_at m) n) (λ _. relative_spans rest)
unfolding relative_spans
away_turn {m = m} is then = ap relative_spans (is ∙ ap (λ xs. m ∷ xs) then)

-- Decoding of a run, operand by operand.

more_after : {A : Type 0} (prefix front : List A) (rest : Option (List A)) →
    option_map (λ xs. prefix ++ xs) (option_map (λ xs. front ++ xs) rest) ≡ option_map (λ xs. (prefix ++ front) ++ xs) rest
more_after prefix front rest = grind (arith, append_assoc)

-- some more were decoded
pub filling_front : {A : Type 0} {all left rest : Option (List A)} (front : List A) {full full' : Bool} {Keeps Keeps' : List A → Type 0} → Filling all left full Keeps →
    left ≡ option_map (λ xs. front ++ xs) rest → (full' ≡ false → full ≡ false) → ((prefix : List A) → full' ≡ false → Keeps prefix → Keeps' (prefix ++ front)) →
    Filling all rest full' Keeps'
filling_front {rest = rest} front filling is still keeps = record {
  prefix = filling.prefix ++ front;
  parts = filling.parts ∙ (ap (option_map (λ xs. filling.prefix ++ xs)) is ∙ more_after filling.prefix front rest);
  kept = λ e. keeps filling.prefix e (filling.kept (still e));
}

-- one more was decoded
pub filling_more : {A : Type 0} {all left rest : Option (List A)} (x : A) {full full' : Bool} {Keeps Keeps' : List A → Type 0} → Filling all left full Keeps →
    left ≡ option_map (λ xs. x ∷ xs) rest → (full' ≡ false → full ≡ false) → ((prefix : List A) → full' ≡ false → Keeps prefix → Keeps' (prefix ++ x ∷ [])) →
    Filling all rest full' Keeps'
filling_more x = filling_front (x ∷ [])

-- a point is outside the unit screen
pub filling_none : {A : Type 0} {all left : Option (List A)} {full : Bool} {Keeps : List A → Type 0} → Filling all left full Keeps → left ≡ None → all ≡ None
filling_none filling is = filling.parts ∙ ap (option_map (λ xs. filling.prefix ++ xs)) is

-- all is decoded
pub filling_end : {A : Type 0} {all left : Option (List A)} {full : Bool} {Keeps : List A → Type 0} → (filling : Filling all left full Keeps) → left ≡ Some [] →
    all ≡ Some filling.prefix
filling_end filling is = filling.parts ∙ (ap (option_map (λ xs. filling.prefix ++ xs)) is ∙ ap Some (append-nil filling.prefix))

pub filled : {A : Type 0} {all left : Option (List A)} {full : Bool} {Keeps : List A → Type 0} (list : List A) (r : Result (Unit {0}) DrawFault) → Filling all left full Keeps → left ≡ Some [] →
    ((prefix : List A) → Keeps prefix → list ≡ prefix) → IfOk r (λ _. full ≡ false) → IfErr r (λ fault. (full ≡ true) × (fault ≡ Memory)) → Fills all list r
filled list (Ok u) filling is kept ok err = filling_end filling is ∙ ap Some (sym (kept filling.prefix (filling.kept ok)))
filled {all = all} list (Err fault) filling is kept ok err =
    subst (λ (fault : DrawFault). Fills all list (Err fault)) (sym err.1) (filling.prefix, filling_end filling is)

-- memory hadn't run out for a point before
pub still_kept : (full failed : Bool) → (full || failed) ≡ false → full ≡ false
still_kept full failed h = grind arith

-- a point that was pushed
pub pushed : {A E : Type 0} (r : Result (Unit {0}) E) (full failed : Bool) (old new : List A) (x : A) → new ≡ cond (is_ok r) (old ++ x ∷ []) old → failed ≡ is_err r →
    (full || failed) ≡ false → new ≡ old ++ x ∷ []
pushed r full failed old new x h h2 h3 = grind arith

-- four points were decoded, and pushed one after another
pub filling_four : {A : Type 0} (all left rest : Option (List A)) (old one two three new : List A) (a b c d : A) → Filling all left false (λ prefix. old ≡ prefix) →
    left ≡ option_map (λ xs. a ∷ b ∷ c ∷ d ∷ xs) rest → one ≡ old ++ a ∷ [] → two ≡ one ++ b ∷ [] → three ≡ two ++ c ∷ [] → new ≡ three ++ d ∷ [] → Filling all rest false (λ prefix. new ≡ prefix)
filling_four all left rest old one two three new a b c d filling is first second third fourth =
    let pushed = fourth ∙ (ap (λ l. l ++ d ∷ []) third ∙ (append_assoc two (c ∷ []) (d ∷ []) ∙ (ap (λ l. l ++ c ∷ d ∷ []) second ∙ (append_assoc one (b ∷ []) (c ∷ d ∷ [])
    ∙ (ap (λ l. l ++ b ∷ c ∷ d ∷ []) first ∙ append_assoc old (a ∷ []) (b ∷ c ∷ d ∷ [])))))) in
    filling_front (a ∷ b ∷ c ∷ d ∷ []) filling is (λ e. e) (λ prefix e kept. pushed ∙ ap (λ l. l ++ a ∷ b ∷ c ∷ d ∷ []) kept)

-- The progress of decoding operands of three words, of which these bytes of a run are left, into points with places for
-- all.
pub record Threes {A Z : Type 0} (all rest : Option (List A)) (run left : List ℕ) (points : Vec A Z) (places : ℕ) : Type 0 where
  pub room : length left + 3 * vec_len points ≤ 3 * vec_capacity points + 2
  pub few : vec_len points + length left ≤ length run
  pub space : vec_capacity points ≡ places
  pub filling : Filling all rest false (λ prefix. points.items ≡ prefix)

-- one more was decoded, and pushed
pub threes_more : {A Z : Type 0} {all rest next : Option (List A)} {run left others : List ℕ} {points more : Vec A Z} {places : ℕ} (x : A) → Threes all rest run left points places →
    3 ≤ length left → others ≡ drop 3 left → rest ≡ option_map (λ xs. x ∷ xs) next → more.items ≡ points.items ++ x ∷ [] → vec_len more ≡ vec_len points + 1 → vec_capacity more ≡ vec_capacity points →
    Threes all next run others more places
threes_more x t long after is items count capacity = grind (arith, length-drop, filling_more)

-- a chunk has at least one byte
pub chunk_less : {A : Type 0} {k size most : ℕ} {left : List A} (x rest : List A) → size ≡ k → most ≡ k → 1 ≤ most → IsChunk size left x rest → length rest < length left
chunk_less x rest is same some chunk = omega (arith, is, same, some, ap length chunk.0, length-append x rest, chunk.1, chunk.2)

-- memory ran out before a point or for it
pub lacks_more : {E Lacks Full : Type 0} (r : Result (Unit {0}) E) (full failed : Bool) → (full ≡ true → Lacks) → failed ≡ is_err r → (Full → Lacks) → OnErr r Full → (full || failed) ≡ true → Lacks
lacks_more r full failed h h2 h3 h4 h5 = grind arith

pub lacks_if : {A Lacks : Type 0} (full : Bool) (r : Result A DrawFault) → (full ≡ true → Lacks) → IfErr r (λ fault. (full ≡ true) × (fault ≡ Memory)) → IsErrOf r Memory → Lacks
lacks_if full r h h2 h3 = grind arith

-- a scratch list holds one more point, or lacks memory for it
pub held_more : {X Z E : Type 0} {old at now : Vec X Z} {all before left : ℕ} {full failed : Bool} (r : Result (Unit {0}) E) → Holding old at all before full → left < before → vec_capacity at ≤ vec_capacity now →
    vec_len now ≤ vec_len at + 1 → failed ≡ is_err r → OnErr r (vec_capacity at ≤ vec_len at) → Holding old now all left (full || failed)
held_more r h h2 h3 h4 h5 h6 = grind arith

-- what a loop that has ended says of the memory
pub held : {X Z A : Type 0} {old now : Vec X Z} {all left : ℕ} {full : Bool} (r : Result A DrawFault) → Holding old now all left full → IfErr r (λ fault. (full ≡ true) × (fault ≡ Memory)) → LacksPlaces all old now r
held r h h2 = grind arith

-- corners that were kept

pub crossed_more : (start at to : Coordinates) (scratch scratch' : List Coordinates) (prefix : List Span) → scratch' ≡ scratch ++ to ∷ [] →
    ((qs : List Coordinates) → rect_spans start (scratch ++ qs) ≡ prefix ++ rect_spans at qs) → (qs : List Coordinates) →
    rect_spans start (scratch' ++ qs) ≡ (prefix ++ record { from = at; to = to } ∷ []) ++ rect_spans (corner at to) qs
unfolding rect_spans
crossed_more start at to scratch scratch' prefix is kept qs = grind (arith, append_assoc)

pub crossed_all : (start at : Coordinates) (scratch : List Coordinates) (prefix : List Span) →
    ((qs : List Coordinates) → rect_spans start (scratch ++ qs) ≡ prefix ++ rect_spans at qs) → rect_spans start scratch ≡ prefix
unfolding rect_spans
crossed_all start at scratch prefix kept = ap (rect_spans start) (sym (append-nil scratch)) ∙ (kept [] ∙ append-nil prefix)

-- pairs that were kept

flat_more : (prefix : List Span) (s : Span) → span_ends (prefix ++ s ∷ []) ≡ span_ends prefix ++ s.from ∷ s.to ∷ []
unfolding span_ends
flat_more [] s = refl
flat_more (t ∷ ts) s = ap (λ (ps : List Coordinates). t.from ∷ t.to ∷ ps) (flat_more ts s)

pub flat_kept : (prefix : List Span) (s : Span) (scratch scratch' scratch'' : List Coordinates) → scratch' ≡ scratch ++ s.from ∷ [] → scratch'' ≡ scratch' ++ s.to ∷ [] → scratch ≡ span_ends prefix →
    scratch'' ≡ span_ends (prefix ++ s ∷ [])
flat_kept prefix s scratch scratch' scratch'' first second kept = grind (arith, append_assoc, flat_more)

pub paired_flat : (scratch : List Coordinates) (prefix : List Span) → scratch ≡ span_ends prefix → pair_spans scratch ≡ prefix
unfolding pair_spans span_ends
paired_flat scratch [] is = ap pair_spans is
paired_flat scratch (s ∷ ss) is = ap pair_spans is ∙ ap (λ (ts : List Span). s ∷ ts) (paired_flat (span_ends ss) ss refl)

pub flat_none : (scratch : List Coordinates) → scratch ≡ [] → scratch ≡ span_ends []
unfolding span_ends
flat_none scratch is = is

nothing_before : {A : Type 0} (left : Option (List A)) → left ≡ option_map (λ xs. [] ++ xs) left
nothing_before left = grind arith

-- nothing is decoded yet
pub filling_begins : {A : Type 0} {all left : Option (List A)} {full : Bool} (Keeps : List A → Type 0) → all ≡ left → Keeps [] → Filling all left full Keeps
filling_begins {left = left} Keeps is none = record { prefix = []; parts = is ∙ nothing_before left; kept = λ _. none }

-- What is left of a list in a loop.

pub drop_at : {A : Type 0} (xs : List A) (i : ℕ) (x : A) → i < length xs → x ≡ get_or xs i x → drop i xs ≡ x ∷ drop (i + 1) xs
drop_at xs i x less is = rw add-one (drop-cons xs i x less ∙ ap (λ y. y ∷ drop (suc i) xs) (sym is))

-- Figures along points.

pub end_here : {A : Type 0} (o : Option A) (xs : List A) → xs ≡ [] → last_or o xs ≡ o
unfolding last_or
end_here o xs is = ap (last_or o) is

pub paired_few : (ps : List Coordinates) → length ps < 2 → pair_spans ps ≡ []
unfolding pair_spans
paired_few ps h = grind arith

-- the first entry along what is left

pub linked_left : (filled : Bool) (d : Drawing) (at to : Coordinates) (left rest : List Coordinates) (e : Entry) → left ≡ to ∷ rest → e ≡ rect_on filled d (record { from = at; to = to }) →
    map (rect_on filled d) (rect_spans at left) ≡ e ∷ map (rect_on filled d) (rect_spans (corner at to) rest)
unfolding rect_spans
linked_left filled d at to left rest e is made = rw (is, made) refl

pub paired_left : (figure : Figure) (d : Drawing) (from to : Coordinates) (left rest : List Coordinates) (e : Entry) → left ≡ from ∷ to ∷ rest →
    e ≡ figure_entry figure d (record { from = from; to = to }) → map (figure_entry figure d) (pair_spans left) ≡ e ∷ map (figure_entry figure d) (pair_spans rest)
unfolding pair_spans
paired_left figure d from to left rest e is made = rw (is, made) refl

-- the last span, after one more

pub linked_last : (o : Option Span) (at to : Coordinates) (left rest : List Coordinates) → left ≡ to ∷ rest →
    last_or (Some (record { from = at; to = to })) (rect_spans (corner at to) rest) ≡ last_or o (rect_spans at left)
unfolding rect_spans last_or
linked_last o at to left rest is = rw is refl

pub linked_end : (p : Coordinates) (qs : List Coordinates) → qs ≡ [] → rect_spans p qs ≡ []
unfolding rect_spans
linked_end p qs is = ap (rect_spans p) is

pub paired_last : (o : Option Span) (from to : Coordinates) (left rest : List Coordinates) → left ≡ from ∷ to ∷ rest →
    last_or (Some (record { from = from; to = to })) (pair_spans rest) ≡ last_or o (pair_spans left)
unfolding pair_spans last_or
paired_last o from to left rest is = rw is refl

-- a pair of points
pub two_of : {A : Type 0} (xs left rest : List A) (a b : A) → length xs ≡ 2 → a ≡ get_or xs 0 a → b ≡ get_or xs 1 b → left ≡ xs ++ rest → left ≡ a ∷ b ∷ rest
two_of [] left rest a b two first second is = absurd (omega arith)
two_of (x ∷ []) left rest a b two first second is = absurd (omega arith)
two_of {A} (x ∷ y ∷ []) left rest a b two first second is = is ∙ (ap (λ (z : A). z ∷ y ∷ rest) (sym first) ∙ ap (λ (z : A). a ∷ z ∷ rest) (sym second))
two_of (x ∷ y ∷ z ∷ xs) left rest a b two first second is = absurd (omega arith)

-- lines from one point to the next

pub joined_lines : (d : Drawing) (p : Coordinates) (qs : List Coordinates) → map (span_line_entry d) (polyline_spans p qs) ≡ polyline_entries d p qs
unfolding polyline_spans polyline_entries
joined_lines d p [] = refl
joined_lines d p (q ∷ qs) = ap (λ (list : List Entry). Entry.Line p q (ink_of d) ∷ list) (joined_lines d q qs)

pub joined_end : (o : Option Span) (p : Coordinates) (qs : List Coordinates) → last_or (option_map (λ s. s.to) o) qs ≡ option_map (λ s. s.to) (last_or o (polyline_spans p qs))
unfolding polyline_spans last_or
joined_end o p [] = refl
joined_end o p (q ∷ qs) = joined_end (Some (record { from = p; to = q })) q qs

-- Points that are only counted.

-- entries with the same attributes leave what the last of them leaves
module _ {A : Type 0} (entry : A → Entry) (again : (s : State) (x y : A) → after (after s (entry x)) (entry y) ≡ after s (entry y)) where
  leaves_from : (s : State) (x last : A) (xs : List A) → last_or (Some x) xs ≡ Some last → walk s (entry x ∷ map entry xs) ≡ after s (entry last)
  unfolding walk last_or
  leaves_from s x last [] is = ap (λ (y : A). after s (entry y)) (let same : x ≡ last = cc in same)
  leaves_from s x last (y ∷ xs) is = leaves_from (after s (entry x)) y last xs is ∙ again s x last

  leaves_last : (s : State) (last : A) (xs : List A) → last_or None xs ≡ Some last → walk s (map entry xs) ≡ after s (entry last)
  unfolding last_or
  leaves_last s last [] is = absurd (cc)
  leaves_last s last (x ∷ xs) is = leaves_from s x last xs is

-- shapes of which only the last was made act as the entries of all
module _ {A : Type 0} {entry : Drawing → A → Entry} {at : A → Coordinates} (lands : Lands entry at) (again : (d : Drawing) (s : State) (x y : A) → after (after s (entry d x)) (entry d y) ≡ after s (entry d y)) where
  pub acts_counted : {S : Type 0} (g : Ghosts S) (w v : Work) (s t : S) (xs : List A) (last : A) (n : ℕ) → InMode w.state.drawing → last_or None xs ≡ Some last → length xs ≡ n →
      v ≡ record w { state = with_pen_moved_to w.state (Some (at last)) } →
      ((list : List Entry) → length list ≡ n → walk (g.state s) list ≡ after (g.state s) (entry w.state.drawing last) → TakesAll (sink_model_of g) list s t) →
      ActsFully g (entries_result w entry (Some xs)) w v s t
  acts_counted g w v s t xs last n mode end many moved took =
      let one = entry w.state.drawing in
      let taken = took (map one xs) (length-map xs one ∙ many) (leaves_last one (again w.state.drawing) (g.state s) last xs end) in (
        map one xs,
        draws_end lands w xs (Some (at last)) mode (ap (option_map at) (sym end))
            ∙ ap (λ (work : Work). let all : Outcome = Ok (record { entries = map one xs; work = work; clears = false }) in all) (sym moved),
        taken.took,
        taken.state,
        taken.works,
      )

base_twice : (base : Base) (colour : Colour) → base_after (base_after base (Some colour)) (Some colour) ≡ base_after base (Some colour)
base_twice base colour = grind arith

pub point_again : (d : Drawing) (s : State) (p q : Coordinates) → after (after s (point_entry d p)) (point_entry d q) ≡ after s (point_entry d q)
point_again d s p q = ap (λ (base : Base). record (after s (point_entry d q)) { drawing = record (after s (point_entry d q)).drawing { base = base } }) (base_twice s.drawing.base d.colour)

-- the end of a list
last_some : {A : Type 0} (o : Option A) (xs : List A) → 0 < length xs → last_or None xs ≡ last_or o xs
unfolding last_or
last_some o [] some = absurd (omega arith)
last_some o (x ∷ xs) some = refl

-- points so far, the last of which is this one
pub record Counts (from : Coordinates) (all rest : ℕ) (at : Coordinates) (prefix : List Coordinates) : Type 0 where
  pub many : 3 * length prefix + rest ≡ all
  pub last : last_or (Some from) prefix ≡ Some at

-- the points that a run leads to are those so far, and those that the rest leads to from the last of them
abbrev pub Along : Coordinates → List ℕ → Coordinates → List ℕ → Type 0
Along from run at rest =
    Filling (points_reached from (moves 3 (operand_words run))) (points_reached at (moves 3 (operand_words rest))) false (Counts from (length run) (length rest) at)

pub along_starts : (from : Coordinates) (run : List ℕ) → Along from run from run
unfolding last_or
along_starts from run = filling_begins (Counts from (length run) (length run) from) refl (record { many = omega arith; last = refl })

pub along_more : (from : Coordinates) (run : List ℕ) {old new : Course} (rest : List ℕ) {front after : List ℕ} → Displaces old new front → 3 ≤ length rest → front ≡ take 3 rest → after ≡ drop 3 rest →
    (old.inside ≡ true → Along from run old.point rest) → new.inside ≡ true → Along from run new.point after
along_more from run {old} {new} rest {front} {after} moved long first then so inside =
    let cut = bytes_turn 3 3 rest front after (omega arith) (omega arith) (omega arith) first then in
    filling_more new.point (so (moved.inside inside))
    (cons_if_all_more (λ q. points_reached q (moves 3 (operand_words after))) (reached_turn old.point cut) (moved.point inside))
    (λ e. e)
    (λ prefix e kept. record {
      many = omega (arith, kept.many, length-append prefix (new.point ∷ []), ap length then, length-drop 3 rest, long);
      last = end_after (Some from) prefix new.point;
    })

pub along_ends : (from : Coordinates) (run : List ℕ) (at : Coordinates) (rest : List ℕ) → 0 < length run → length rest ≡ 0 → Along from run at rest → Arrives (points_reached from (moves 3 (operand_words run))) (length run / 3) at
unfolding points_reached
along_ends from run at rest some none along =
    let kept = along.kept refl in record {
      points = along.prefix;
      are = filling_end along (ap (points_reached at) (bytes_none 3 rest none));
      many = omega (arith, kept.many, none);
      last = last_some (Some from) along.prefix (omega (arith, kept.many, none, some)) ∙ kept.last;
    }

-- the bytes left
pub bytes_left : (rest after : List ℕ) → after ≡ drop 3 rest → length after ≡ length rest - 3
bytes_left rest after is = ap length is ∙ length-drop 3 rest

pub three_bytes : (rest : List ℕ) → length rest ≡ 3 → get_or rest 0 0 ∷ get_or rest 1 0 ∷ get_or rest 2 0 ∷ [] ≡ take 3 rest
three_bytes rest h = grind arith

pub if_some_map : {A : Type 0} (P Q : A → Type 0) (o : Option A) → IfSome o P → ((x : A) → P x → Q x) → IfSome o Q
if_some_map P Q None is so = is
if_some_map P Q (Some x) is so = so x is

-- points that operands spell

-- points so far, the last of which is spelt by this operand
pub record Ends (all left : ℕ) (operand : List ℕ) (prefix : List Coordinates) : Type 0 where
  pub many : length prefix + left ≡ all
  pub last : 0 < length operand → last_or None prefix ≡ point_at (multi_of (operand_words operand))

-- the points that a run spells are those so far, and those of the rest
abbrev pub Spelt : ℕ → List ℕ → List ℕ → List ℕ → Type 0
Spelt k run rest last =
    let all = moves k (operand_words run) in
    let left = moves k (operand_words rest) in
    Filling (points_at all) (points_at left) false (Ends (length all) (length left) last)

pub spelt_starts : (k : ℕ) (run : List ℕ) → Spelt k run run []
spelt_starts k run = grind (arith, filling_begins)

pub spelt_more : (k : ℕ) (run rest last front after : List ℕ) (was begins : Bool) → 0 < length front → moves k (operand_words rest) ≡ multi_of (operand_words front) ∷ moves k (operand_words after) →
    ((tail : List ℕ) → begins ≡ is_some (point_at (multi_of (operand_words (slice_index front 0 ∷ tail))))) → (was ≡ true → Spelt k run rest last) → (was && begins) ≡ true → Spelt k run after front
spelt_more k run rest last [] after was begins some cut says spelt both = absurd (omega arith)
spelt_more k run rest last (x ∷ xs) after false begins some cut says spelt both = absurd (cc)
spelt_more k run rest last (x ∷ xs) after true begins some cut says spelt both = by (point_at (multi_of (operand_words (x ∷ xs)))) refl (sym (says xs) ∙ both)
  where
    by : (o : Option Coordinates) → point_at (multi_of (operand_words (x ∷ xs))) ≡ o → is_some o ≡ true → Spelt k run after (x ∷ xs)
    by None at inside = absurd (cc)
    by (Some p) at inside = filling_more p (spelt refl)
        (cons_if_all_more (λ _. points_at (moves k (operand_words after))) (points_turn cut) at)
        (λ e. e)
        (λ prefix e kept. record { many = omega (arith, kept.many, length-append prefix (p ∷ []), ap length cut); last = λ some. end_after None prefix p ∙ sym at })

pub spelt_ends : (k : ℕ) (run rest last : List ℕ) (o : Option Coordinates) → 0 < length last → length rest ≡ 0 → o ≡ point_at (multi_of (operand_words last)) → Spelt k run rest last →
    IfSome o (λ at. Arrives (points_at (moves k (operand_words run))) (length (moves k (operand_words run))) at)
unfolding points_at
spelt_ends k run rest last None some none at spelt = tt
spelt_ends k run rest last (Some p) some none at spelt =
    let kept = spelt.kept refl in
    let nothing = bytes_none k rest none in record {
      points = spelt.prefix;
      are = filling_end spelt (ap points_at nothing);
      many = omega (arith, kept.many, ap length nothing);
      last = kept.last some ∙ sym at;
    }

-- lines through points

line_again : (d : Drawing) (s : State) (x y : Span) → after (after s (span_line_entry d x)) (span_line_entry d y) ≡ after s (span_line_entry d y)
line_again d s x y = ap (λ (base : Base). record (after s (span_line_entry d y)) { drawing = record (after s (span_line_entry d y)).drawing { base = base } }) (base_twice s.drawing.base d.colour)

spans_many : (p : Coordinates) (qs : List Coordinates) → length (polyline_spans p qs) ≡ length qs
unfolding polyline_spans
spans_many p [] = refl
spans_many p (q ∷ qs) = ap suc (spans_many q qs)

spans_from : (o : Option Span) (p q end : Coordinates) (qs : List Coordinates) → last_or (Some q) qs ≡ Some end → (from : Coordinates) × (last_or o (polyline_spans p (q ∷ qs)) ≡ Some (record { from = from; to = end }))
unfolding polyline_spans last_or
spans_from o p q end [] is = let same : q ≡ end = cc in (p, ap (λ (to : Coordinates). let span : Span = record { from = p; to = to } in Some span) same)
spans_from o p q end (r ∷ qs) is = spans_from (Some (record { from = p; to = q })) q r end qs is

-- the last line leads to the last point
spans_last : (p end : Coordinates) (qs : List Coordinates) → last_or None qs ≡ Some end → (from : Coordinates) × (last_or None (polyline_spans p qs) ≡ Some (record { from = from; to = end }))
unfolding last_or
spans_last p end [] is = absurd (cc)
spans_last p end (q ∷ qs) is = spans_from None p q end qs is

-- points, or lines through them, of which only the last was made
pub trail_counted : {S : Type 0} (g : Ghosts S) (trail : Trail) (w v : Work) (s t : S) (from to : Coordinates) (ps : List Coordinates) (n : ℕ) → InMode w.state.drawing →
    last_or None ps ≡ Some to → length ps ≡ n → v ≡ record w { state = with_pen_moved_to w.state (Some to) } →
    ((list : List Entry) → length list ≡ n → walk (g.state s) list ≡ after (g.state s) (trail_entry trail w.state.drawing from to) → TakesAll (sink_model_of g) list s t) →
    ActsFully g (trail_result trail w from (Some ps)) w v s t
trail_counted g Trail.Points w v s t from to ps n mode last many moved took = acts_counted point_lands point_again g w v s t ps to n mode last many moved took
trail_counted g Trail.Lines w v s t from to ps n mode last many moved took =
    let (start, end) = spans_last from to ps last in
    acts_counted line_lands line_again g w v s t (polyline_spans from ps) (record { from = start; to = to }) n mode end (spans_many from ps ∙ many) moved took
