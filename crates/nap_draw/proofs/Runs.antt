use Rattle.nap_draw.proofs.{AreWholeOperands, Bool, Common.operands, Coordinates, Displacement, DrawFault, Entry, Err, Ink, List, Missing, None, Ok, Opcode, Option, Outcome, Pen, Result, RuleResult, RunsJoin, Some, Span, State, Work, [], absolute_spans, add-div_left, add-mod_left, addresses, after, and_then, ap, append-nil, append_assoc, ap₂, arith, at_least_one, complete_pairs, cond, cons_if_all, cut_operands, div-eq_of_lt, div_ceil, div_ceil_times, drop, drop-append_seam, drop-map, entries_result, eqb, false, ink_of, leb, length, length-append, length-drop, length-map, length-take, map, map-append, min, mod-eq_of_lt, moves, moves_of, mul-le, multi_of, nat_lt, nat_tests, operand_words, option_map, pen_point, point_at, points_at, polyline_spans, refl, relative_spans, rule_result, single_of, span, span_by, subst, suc, suc-mul, sym, take, take-append-drop, take-append_seam, take-map, true, walk, walks_join, with_operands, zero, ℕ, ◌%◌, ◌*◌, ◌++◌, ◌+◌, ◌-◌, ◌<◌, ◌∙◌, ◌∷◌, ◌≡◌, ◌≢◌, ◌≤◌}

-- How a run is cut into operands.

cut_operands-first : (k lacking : ℕ) (operand words : List ℕ) →
    cut_operands k lacking operand words ≡ (operand ++ take (min lacking (length words)) words) ∷ operands k (drop (min lacking (length words)) words)
unfolding cut_operands operands
cut_operands-first k zero operand [] = rw append-nil refl
cut_operands-first k (suc lacking) operand [] = let e : min (suc lacking) 0 ≡ 0 = omega arith in rw (e, append-nil) refl
cut_operands-first k zero operand (word ∷ words) = let e : min 0 (suc (length words)) ≡ 0 = omega arith in rw (e, append-nil) refl
cut_operands-first k (suc lacking) operand (word ∷ words) =
    let e : min (suc lacking) (suc (length words)) ≡ suc (min lacking (length words)) = omega arith in
    cut_operands-first k lacking (operand ++ word ∷ []) words ∙ rw (e, append_assoc) refl

-- the first operand is the first k words, or all if there are fewer
pub operands-first : (k : ℕ) (run : List ℕ) → 1 ≤ k → 0 < length run →
    operands k run ≡ take (min k (length run)) run ∷ operands k (drop (min k (length run)) run)
unfolding operands
operands-first k run h h2 = grind (arith, cut_operands-first)

pub operands_none : (k : ℕ) (run : List ℕ) → length run ≡ 0 → operands k run ≡ []
unfolding operands
operands_none k run h = grind arith

pub moves_none : (k : ℕ) (run : List ℕ) → length run ≡ 0 → moves k run ≡ []
moves_none k run none = ap (map multi_of) (operands_none k run none)

pub moves_some : (k : ℕ) (run : List ℕ) → 0 < length run → 0 < length (moves k run)
unfolding operands
moves_some k [] more = absurd (omega arith)
moves_some k (word ∷ words) more = omega (arith, ap (λ (os : List (List ℕ)). length (map multi_of os)) (cut_operands-first k (k - 1) (word ∷ []) words))

-- the operands of a run are its first operand and those of the rest
pub moves_turn : (k n : ℕ) (run front after : List ℕ) → 1 ≤ k → 0 < length run →
    n ≡ min k (length run) → front ≡ take n run → after ≡ drop n run → moves k run ≡ multi_of front ∷ moves k after
moves_turn k n run front after some more is first rest = rw (first, rest, is) (ap (map multi_of) (operands-first k run some more))

pub none_of : (work : Work) (run : List ℕ) → length run ≡ 0 → (f : List Displacement → Outcome) → with_operands work run f ≡ Err Missing
none_of work run none f = ap (λ ms. and_then (at_least_one ms) f) (moves_none work.domain.multi run none)

pub some_ok : {A : Type 0} (xs ys : List A) (x : A) → xs ≡ x ∷ ys → at_least_one xs ≡ Ok xs
some_ok xs ys x is = ap at_least_one is ∙ ap Ok (sym is)

pub more_of : (work : Work) (run : List ℕ) → length run ≢ 0 → (f : List Displacement → Outcome) → with_operands work run f ≡ f (moves_of work run)
unfolding operands
more_of work run h f = grind (arith, cut_operands-first, some_ok)

-- how many operands there are

ceil_zero : (k : ℕ) → 0 < k → div_ceil 0 k ≡ 0
ceil_zero k some = rw (div-eq_of_lt some, mod-eq_of_lt some) refl

ceil_more : (k n : ℕ) → 0 < k → div_ceil (k + n) k ≡ suc (div_ceil n k)
ceil_more k n some = rw (add-div_left n some, add-mod_left k n) (omega arith)

ceil_few : (k n : ℕ) → 0 < n → n < k → div_ceil n k ≡ 1
ceil_few k n some less = rw (div-eq_of_lt less, mod-eq_of_lt less) (omega arith)

by_size : (k : ℕ) (run rest : List ℕ) → 1 ≤ k → 0 < length run → length rest ≡ length run - min k (length run) →
    suc (div_ceil (length rest) k) ≡ div_ceil (length run) k
by_size k run rest some more left = at (leb k (length run)) refl
  where
    at : (b : Bool) → leb k (length run) ≡ b → suc (div_ceil (length rest) k) ≡ div_ceil (length run) k
    at true whole =
        let is : length run ≡ k + length rest = grind (arith, nat_tests) in
        sym (ap (λ n. div_ceil n k) is ∙ ceil_more k (length rest) some)
    at false part =
        let less : length run < k = grind (arith, nat_tests) in
        let none : length rest ≡ 0 = omega arith in
        ap (λ n. suc (div_ceil n k)) none ∙ (ap suc (ceil_zero k some) ∙ sym (ceil_few k (length run) more less))

count_within : (fuel k : ℕ) (run : List ℕ) → 1 ≤ k → length run ≤ fuel → length (operands k run) ≡ div_ceil (length run) k
unfolding operands
count_within fuel k [] some most = sym (ceil_zero k some)
count_within zero k (word ∷ words) some most = absurd (omega arith)
count_within (suc fuel) k (word ∷ words) some most =
    let run : List ℕ = word ∷ words in
    let rest : List ℕ = drop (min k (length run)) run in
    let left : length rest ≡ length run - min k (length run) = length-drop (min k (length run)) run in
    let front : length (operands k run) ≡ suc (length (operands k rest)) = ap length (operands-first k run some (omega arith)) in
    front ∙ (ap suc (count_within fuel k rest some (omega arith)) ∙ by_size k run rest some (omega arith) left)

pub moves_count_is : (k : ℕ) (run : List ℕ) → 1 ≤ k → length (moves k run) ≡ div_ceil (length run) k
moves_count_is k run some = length-map (operands k run) multi_of ∙ count_within (length run) k run some (omega arith)

-- x was cut off at the start of what is left: all of it, or so much
abbrev pub IsChunk : {A : Type 0} → ℕ → List A → List A → List A → Type 0
IsChunk size left x rest = (left ≡ x ++ rest) × (length x ≡ min size (length left)) × (0 < length left)

-- a chunk that was cut off at the start of a run is its first operand
pub operands_chunk : (k size : ℕ) (left x rest : List ℕ) → size ≡ k → 1 ≤ k → left ≡ x ++ rest → length x ≡ min size (length left) → 0 < length left →
    operands k left ≡ x ∷ operands k rest
operands_chunk k size left x rest is some parts long more = grind (arith, take-append_seam, drop-append_seam, operands-first)

pub moves_chunk : (k size : ℕ) (left x rest : List ℕ) → size ≡ k → 1 ≤ k → left ≡ x ++ rest → length x ≡ min size (length left) → 0 < length left →
    moves k left ≡ multi_of x ∷ moves k rest
moves_chunk k size left x rest is some parts long more = ap (map multi_of) (operands_chunk k size left x rest is some parts long more)

-- a run whose first operand was cut off

pub run_some : (k n : ℕ) (run after : List ℕ) → after ≡ drop n run → 0 < length (moves k after) → 0 < length run
run_some k n run after h h2 = grind (arith, length-drop, moves_none)

pub one_at_most : (k n : ℕ) (run front after : List ℕ) → 1 ≤ k → n ≡ min k (length run) → front ≡ take n run → after ≡ drop n run → length (moves k after) ≡ 0 → length (moves k run) ≤ 1
one_at_most k n run front after h h2 h3 h4 h5 = grind (arith, moves_none, moves_turn)

-- there are more operands than n if there are more words than n operands have
pub more_than : (n k : ℕ) (run : List ℕ) → 1 ≤ k → nat_lt n (length (moves k run)) ≡ nat_lt (n * k) (length run)
more_than n k run some = grind (arith, nat_tests, moves_count_is, div_ceil_times, mul-le, nat_tests)

-- A run of bytes is cut as the words that they carry.

pub carried_length : (run : List ℕ) → length (operand_words run) ≡ length run
carried_length run = length-map run (λ byte. byte % 64)

pub carried_parts : (run front rest : List ℕ) → run ≡ front ++ rest → operand_words run ≡ operand_words front ++ operand_words rest
carried_parts run front rest parts = ap (map (λ byte. byte % 64)) parts ∙ map-append (λ byte. byte % 64) front rest

pub words_prefix : (n : ℕ) (run front : List ℕ) → front ≡ take n run → operand_words front ≡ take n (operand_words run)
words_prefix n run front is = ap (map (λ byte. byte % 64)) is ∙ sym (take-map (λ byte. byte % 64) n run)

pub carried_rest : (n : ℕ) (run rest : List ℕ) → rest ≡ drop n run → operand_words rest ≡ drop n (operand_words run)
carried_rest n run rest is = ap (map (λ byte. byte % 64)) is ∙ sym (drop-map (λ byte. byte % 64) n run)

pub byte_operands_none : (k : ℕ) (run : List ℕ) → length run ≡ 0 → operands k (operand_words run) ≡ []
byte_operands_none k run none = operands_none k (operand_words run) (carried_length run ∙ none)

pub bytes_none : (k : ℕ) (run : List ℕ) → length run ≡ 0 → moves k (operand_words run) ≡ []
bytes_none k run none = ap (map multi_of) (byte_operands_none k run none)

pub bytes_some : (k : ℕ) (run : List ℕ) → 0 < length run → 0 < length (moves k (operand_words run))
bytes_some k run more = moves_some k (operand_words run) (omega (arith, carried_length run))

pub addresses_none : (k : ℕ) (run : List ℕ) → length run ≡ 0 → addresses k (operand_words run) ≡ []
addresses_none k run none = ap (map single_of) (byte_operands_none k run none)

-- the operands of a run are its first operand and those of the rest
pub bytes_turn : (k n : ℕ) (run front after : List ℕ) → 1 ≤ k → 0 < length run → n ≡ min k (length run) → front ≡ take n run → after ≡ drop n run →
    moves k (operand_words run) ≡ multi_of (operand_words front) ∷ moves k (operand_words after)
bytes_turn k n run front after some more is first rest =
    moves_turn k n (operand_words run) (operand_words front) (operand_words after) some (omega (arith, carried_length run)) (omega (arith, carried_length run)) (words_prefix n run front first) (carried_rest n run after rest)

three_again : (run : List ℕ) → take 3 (take 8 run) ≡ take 3 run
three_again run = grind arith

-- a run whose first operand of three words is read from its first eight bytes
pub three_of_eight : (run block after : List ℕ) → 3 ≤ length run → block ≡ take 8 run → after ≡ drop 3 run → moves 3 (operand_words run) ≡ multi_of (operand_words (take 3 block)) ∷ moves 3 (operand_words after)
three_of_eight run block after long first rest = grind (arith, bytes_turn, three_again)

-- a chunk that was cut off at the start of a run is its first operand
pub byte_operands_chunk : (k size : ℕ) (left x rest : List ℕ) → size ≡ k → 1 ≤ k → left ≡ x ++ rest → length x ≡ min size (length left) → 0 < length left →
    operands k (operand_words left) ≡ operand_words x ∷ operands k (operand_words rest)
byte_operands_chunk k size left x rest is some parts long more =
    operands_chunk k size (operand_words left) (operand_words x) (operand_words rest) is some (carried_parts left x rest parts) (omega (arith, carried_length left, carried_length x)) (omega (arith, carried_length left))

pub bytes_chunk : {k size most : ℕ} {left : List ℕ} (x rest : List ℕ) → size ≡ k → most ≡ k → 1 ≤ most → IsChunk size left x rest →
    moves k (operand_words left) ≡ multi_of (operand_words x) ∷ moves k (operand_words rest)
bytes_chunk x rest is same some chunk = ap (map multi_of) (byte_operands_chunk _ _ _ x rest is (omega arith) chunk.0 chunk.1 chunk.2)

-- a run whose first chunk was taken, or its first two
module _ {k size most value : ℕ} {run left : List ℕ} (x rest : List ℕ) (all : left ≡ run) (cut_by : size ≡ most) (same : most ≡ value) (is : value ≡ k) (least : 1 ≤ value)
    (parts : left ≡ x ++ rest) (long : length x ≡ min size (length left)) (more : 0 < length left) where
  pub first_operand : operands k (operand_words run) ≡ operand_words x ∷ operands k (operand_words rest)
  first_operand = ap (λ (run : List ℕ). operands k (operand_words run)) (sym all) ∙ byte_operands_chunk k size left x rest (omega arith) (omega arith) parts long more

  pub only_operand : length rest ≡ 0 → operands k (operand_words run) ≡ operand_words x ∷ []
  only_operand none = first_operand ∙ ap (λ (os : List (List ℕ)). operand_words x ∷ os) (byte_operands_none k rest none)

  pub two_operands : (still : ℕ) (y others : List ℕ) → still ≡ size → rest ≡ y ++ others → length y ≡ min still (length rest) → 0 < length rest →
      operands k (operand_words run) ≡ operand_words x ∷ operand_words y ∷ operands k (operand_words others)
  two_operands still y others kept parts long more = grind (arith, first_operand, byte_operands_chunk)

-- a run of one operand of three words
pub one_of_three : (k : ℕ) (run : List ℕ) → k ≡ 3 → length run ≡ 3 → moves k (operand_words run) ≡ multi_of (operand_words run) ∷ []
unfolding operands cut_operands
one_of_three k (x ∷ y ∷ z ∷ []) is long = ap (λ (k : ℕ). moves k (operand_words (x ∷ y ∷ z ∷ []))) is
one_of_three k [] is long = absurd (omega arith)
one_of_three k (x ∷ []) is long = absurd (omega arith)
one_of_three k (x ∷ y ∷ []) is long = absurd (omega arith)
one_of_three k (x ∷ y ∷ z ∷ z' ∷ run) is long = absurd (omega arith)

-- An opcode on a run, and then on a second run, does what it does on both runs joined.

-- complete operands at the start of a run are cut as they are alone
moves_join : (k count : ℕ) (run more : List ℕ) → length run ≡ count * k → moves k (run ++ more) ≡ moves k run ++ moves k more
unfolding operands
moves_join k count [] more whole = refl
moves_join (suc k) (suc count) run more whole =
    let long : length run ≡ count * suc k + suc k = whole ∙ suc-mul count (suc k) in
    let front : List ℕ = take (suc k) run in
    let rest : List ℕ = drop (suc k) run in
    let parts : run ≡ front ++ rest = sym (take-append-drop (suc k) run) in
    let both : run ++ more ≡ front ++ (rest ++ more) = ap (λ (l : List ℕ). l ++ more) parts ∙ append_assoc front rest more in
    let one : length front ≡ suc k = simp length-take (omega arith) in
    let others : length rest ≡ count * suc k = simp length-drop (omega arith) in
    moves_chunk (suc k) (suc k) (run ++ more) front (rest ++ more) refl (omega arith) both (omega (arith, length-append run more)) (omega (arith, length-append run more))
    ∙ (ap (λ (ms : List Displacement). multi_of front ∷ ms) (moves_join (suc k) count rest more others)
    ∙ sym (ap (λ (ms : List Displacement). ms ++ moves (suc k) more) (moves_chunk (suc k) (suc k) run front rest refl (omega arith) parts (omega arith) (omega arith))))
moves_join k count (word ∷ words) more whole = absurd (omega arith)

-- the first step gave a result if both steps together did

pub mapped_some : {A B : Type 0} (f : A → B) (o : Option A) (y : B) → option_map f o ≡ Some y → (x : A) × (o ≡ Some x) × (f x ≡ y)
mapped_some f o y h = grind arith

and_ok : {A B : Type 0} (r : Result A DrawFault) (f : A → Result B DrawFault) (y : B) → and_then r f ≡ Ok y → (x : A) × (r ≡ Ok x) × (f x ≡ Ok y)
and_ok r f y h = grind arith

-- a check of operands that doesn't change them, and that passes two lists joined if it passes each
record Gate (gate : List Displacement → Result (List Displacement) DrawFault) : Type 0 where
  same : (ms passed : List Displacement) → gate ms ≡ Ok passed → passed ≡ ms
  both : (ms ns : List Displacement) → gate ms ≡ Ok ms → gate ns ≡ Ok ns → gate (ms ++ ns) ≡ Ok (ms ++ ns)

some_gate : Gate at_least_one
some_gate = grind arith

cond_ok : {A : Type 0} (b : Bool) (x y : A) (fault : DrawFault) → cond b (Ok x) (Err fault) ≡ Ok y → (b ≡ true) × (y ≡ x)
cond_ok b x y fault h = grind arith

pairs_gate : Gate complete_pairs
pairs_gate = record { same = same; both = both }
  where
    same : (ms passed : List Displacement) → complete_pairs ms ≡ Ok passed → passed ≡ ms
    same [] passed is = cc
    same (m ∷ ms) passed is = (cond_ok (eqb (length ms % 2) 1) (m ∷ ms) passed Missing is).1

    both : (ms ns : List Displacement) → complete_pairs ms ≡ Ok ms → complete_pairs ns ≡ Ok ns → complete_pairs (ms ++ ns) ≡ Ok (ms ++ ns)
    both [] ns a b = b
    both (m ∷ ms) [] a b = cc
    both (m ∷ ms) (n ∷ ns) a b =
        let odd = (cond_ok (eqb (length ms % 2) 1) (m ∷ ms) (m ∷ ms) Missing a).0 in
        let odd_too = (cond_ok (eqb (length ns % 2) 1) (n ∷ ns) (n ∷ ns) Missing b).0 in
        let long : length (ms ++ n ∷ ns) ≡ length ms + suc (length ns) = length-append ms (n ∷ ns) in
        let odd_still : eqb (length (ms ++ n ∷ ns) % 2) 1 ≡ true = grind (arith, nat_tests) in
        ap (λ (b : Bool). cond b (Ok (m ∷ (ms ++ n ∷ ns))) (Err Missing)) odd_still

-- the points that two lists of operands joined reach are those of the first, and then those of the second

cons_if_all_join : {A : Type 0} (o : Option A) (f g : A → Option (List A)) (xs ys : List A) → cons_if_all o f ≡ Some xs →
    ((x : A) (zs : List A) → f x ≡ Some zs → g x ≡ Some (zs ++ ys)) → cons_if_all o g ≡ Some (xs ++ ys)
cons_if_all_join {A = A} None f g xs ys is next = cc
cons_if_all_join {A = A} (Some x) f g xs ys is next =
    let there = mapped_some (λ (zs : List A). x ∷ zs) (f x) xs is in
    ap (option_map (λ (zs : List A). x ∷ zs)) (next x there.0 there.1) ∙ ap (λ (zs : List A). Some (zs ++ ys)) there.2

points_join : (ms ns : List Displacement) (ps qs : List Coordinates) → points_at ms ≡ Some ps → points_at ns ≡ Some qs → points_at (ms ++ ns) ≡ Some (ps ++ qs)
unfolding points_at
points_join [] ns ps qs a b = let e : [] ≡ ps = cc in b ∙ ap (λ (l : List Coordinates). Some (l ++ qs)) e
points_join (m ∷ ms) ns ps qs a b = cons_if_all_join (point_at m) (λ _. points_at ms) (λ _. points_at (ms ++ ns)) ps qs a (λ p rs is. points_join ms ns rs qs is b)

between_join : (ms ns : List Displacement) (xs ys : List Span) → absolute_spans ms ≡ Some xs → absolute_spans ns ≡ Some ys → absolute_spans (ms ++ ns) ≡ Some (xs ++ ys)
unfolding absolute_spans
between_join [] ns xs ys a b = let e : [] ≡ xs = cc in b ∙ ap (λ (l : List Span). Some (l ++ ys)) e
between_join (m ∷ []) ns xs ys a b = cc
between_join (m ∷ n ∷ ms) ns xs ys a b =
    cons_if_all_join (span (point_at m) (point_at n)) (λ _. absolute_spans ms) (λ _. absolute_spans (ms ++ ns)) xs ys a (λ s zs is. between_join ms ns zs ys is b)

away_join : (ms ns : List Displacement) (xs ys : List Span) → relative_spans ms ≡ Some xs → relative_spans ns ≡ Some ys → relative_spans (ms ++ ns) ≡ Some (xs ++ ys)
unfolding relative_spans
away_join [] ns xs ys a b = let e : [] ≡ xs = cc in b ∙ ap (λ (l : List Span). Some (l ++ ys)) e
away_join (m ∷ []) ns xs ys a b = cc
away_join (m ∷ n ∷ ms) ns xs ys a b =
    cons_if_all_join (span_by (point_at m) n) (λ _. relative_spans ms) (λ _. relative_spans (ms ++ ns)) xs ys a (λ s zs is. away_join ms ns zs ys is b)

-- the results of two runs, one after the other
abbrev as_one : RuleResult → RuleResult → RuleResult
as_one first second = record { entries = first.entries ++ second.entries; work = second.work; clears = false }

-- entries drawn with the current pel, colour and texture leave these as they are
abbrev Keeps : {A : Type 0} → (Ink → A → Entry) → Type 0
Keeps {A = A} entry = (s : State) (ink : Ink) (x : A) → ink_of s.drawing ≡ ink → ink_of (after s (entry ink x)).drawing ≡ ink

module _ {A : Type 0} (entry : Ink → A → Entry) (keeps : Keeps entry) where
  walk_keeps : (s : State) (ink : Ink) (xs : List A) → ink_of s.drawing ≡ ink → ink_of (walk s (map (entry ink) xs)).drawing ≡ ink
  unfolding walk
  walk_keeps s ink [] is = is
  walk_keeps s ink (x ∷ xs) is = walk_keeps (after s (entry ink x)) ink xs (keeps s ink x is)

  abbrev of_shapes : Work → List A → RuleResult
  of_shapes work xs = rule_result work (map (entry (ink_of work.state.drawing)) xs)

  abbrev of_some : Work → Option (List A) → Outcome
  of_some work o = entries_result work (λ d. entry (ink_of d)) o

  list_ok : (work : Work) (o : Option (List A)) (d : RuleResult) → of_some work o ≡ Ok d → (xs : List A) × (o ≡ Some xs) × (of_shapes work xs ≡ d)
  list_ok work o d h = grind arith

  shapes_join : (work : Work) (xs ys : List A) → of_shapes work (xs ++ ys) ≡ as_one (of_shapes work xs) (of_shapes (of_shapes work xs).work ys)
  shapes_join work xs ys =
      let ink : Ink = ink_of work.state.drawing in
      let kept : ink_of (walk work.state (map (entry ink) xs)).drawing ≡ ink = walk_keeps work.state ink xs refl in
      rw (map-append, walks_join, kept) refl

  -- the rule of such an opcode, by its start and the points that its operands reach from there
  module _ {B : Type 0} {gate : List Displacement → Result (List Displacement) DrawFault} (by : Gate gate)
      (begin : Pen → Result B DrawFault) (shapes : B → List Displacement → Option (List A))
      (onto : (s : State) (b c : B) (ms ns : List Displacement) (xs ys : List A) → begin s.drawing.pen ≡ Ok b → shapes b ms ≡ Some xs →
      begin (walk s (map (entry (ink_of s.drawing)) xs)).drawing.pen ≡ Ok c → shapes c ns ≡ Some ys → shapes b (ms ++ ns) ≡ Some (xs ++ ys)) where
    abbrev begun : Work → List Displacement → Outcome
    begun work ms = and_then (begin work.state.drawing.pen) (λ b. of_some work (shapes b ms))

    abbrev of_run : Work → List ℕ → Outcome
    of_run work run = and_then (gate (moves_of work run)) (begun work)

    -- what an opcode with this result had before it
    record Gave (work : Work) (ms : List Displacement) (d : RuleResult) : Type 0 where
      passed : gate ms ≡ Ok ms
      start : B
      begins : begin work.state.drawing.pen ≡ Ok start
      list : List A
      leads : shapes start ms ≡ Some list
      gives : of_shapes work list ≡ d

    gave : (work : Work) (run : List ℕ) (d : RuleResult) → of_run work run ≡ Ok d → Gave work (moves_of work run) d
    gave work run d is =
        let ms : List Displacement = moves_of work run in
        let first = and_ok (gate ms) (begun work) d is in
        let same : first.0 ≡ ms = by.same ms first.0 first.1 in
        let then_ = and_ok (begin work.state.drawing.pen) (λ b. of_some work (shapes b first.0)) d first.2 in
        let last = list_ok work (shapes then_.0 first.0) d then_.2 in
        let leads : shapes then_.0 ms ≡ Some last.0 = ap (shapes then_.0) (sym same) ∙ last.1 in
        record { passed = first.1 ∙ ap Ok same; start = then_.0; begins = then_.1; list = last.0; leads = leads; gives = last.2 }

    rule_joins : (work : Work) (run more : List ℕ) (first second : RuleResult) → AreWholeOperands work.domain.multi run →
        of_run work run ≡ Ok first → of_run first.work more ≡ Ok second → of_run work (run ++ more) ≡ Ok (as_one first second)
    rule_joins work run more first second whole is then_ =
        let one = gave work run first is in
        let two = gave (of_shapes work one.list).work more second (subst (λ (d : RuleResult). of_run d.work more ≡ Ok second) (sym one.gives) then_) in
        let moved = moves_join work.domain.multi whole.0 run more whole.1 in
        let passed = by.both (moves_of work run) (moves_of work more) one.passed two.passed in
        let led = onto work.state one.start two.start (moves_of work run) (moves_of work more) one.list two.list one.begins one.leads two.begins two.leads in
        rw (moved, passed, one.begins, led) (ap Ok (shapes_join work one.list two.list) ∙ ap₂ (λ f t. Ok (as_one f t)) one.gives two.gives)

-- a point leaves the current texture, and a line or a rectangle holds all three

abbrev point_with : Ink → Coordinates → Entry
point_with ink at = Entry.Point at ink.pel ink.colour

abbrev line_with : Ink → Span → Entry
line_with ink s = Entry.Line s.from s.to ink

abbrev rect_with : Bool → Ink → Span → Entry
rect_with filled ink s = Entry.Rect filled s.from s.to ink

point_keeps : Keeps point_with
point_keeps s ink at is = ap (λ (i : Ink). record ink { texture = i.texture }) is

-- lines that continue from the last point

last_of : Coordinates → List Coordinates → Coordinates
last_of p [] = p
last_of p (q ∷ qs) = last_of q qs

joined_join : (p : Coordinates) (ps qs : List Coordinates) → polyline_spans p (ps ++ qs) ≡ polyline_spans p ps ++ polyline_spans (last_of p ps) qs
unfolding polyline_spans last_of
joined_join p [] qs = refl
joined_join p (r ∷ ps) qs = ap (λ (l : List Span). record { from = p; to = r } ∷ l) (joined_join r ps qs)

pen_at_last : (s : State) (ink : Ink) (p : Coordinates) (ps : List Coordinates) → pen_point s.drawing.pen ≡ Ok p →
    pen_point (walk s (map (line_with ink) (polyline_spans p ps))).drawing.pen ≡ Ok (last_of p ps)
unfolding polyline_spans last_of walk
pen_at_last s ink p [] is = is
pen_at_last s ink p (q ∷ qs) is = pen_at_last (after s (line_with ink (record { from = p; to = q }))) ink q qs refl

lines_on : (s : State) (p q : Coordinates) (ms ns : List Displacement) (xs ys : List Span) → pen_point s.drawing.pen ≡ Ok p → option_map (polyline_spans p) (points_at ms) ≡ Some xs →
    pen_point (walk s (map (line_with (ink_of s.drawing)) xs)).drawing.pen ≡ Ok q → option_map (polyline_spans q) (points_at ns) ≡ Some ys →
    option_map (polyline_spans p) (points_at (ms ++ ns)) ≡ Some (xs ++ ys)
lines_on s p q ms ns xs ys begins leads then_ more =
    let one = mapped_some (polyline_spans p) (points_at ms) xs leads in
    let two = mapped_some (polyline_spans q) (points_at ns) ys more in
    let last : last_of p one.0 ≡ q = cc (pen_at_last s (ink_of s.drawing) p one.0 begins) in
    ap (option_map (polyline_spans p)) (points_join ms ns one.0 two.0 one.1 two.1) ∙ cc (joined_join p one.0 two.0)

-- the rule of an opcode that doesn't continue from the pen
module _ {A : Type 0} (entry : Ink → A → Entry) (keeps : Keeps entry) {gate : List Displacement → Result (List Displacement) DrawFault} (by : Gate gate)
    (shapes : List Displacement → Option (List A))
    (onto : (ms ns : List Displacement) (xs ys : List A) → shapes ms ≡ Some xs → shapes ns ≡ Some ys → shapes (ms ++ ns) ≡ Some (xs ++ ys)) where
  abbrev of_run_alone : Work → List ℕ → Outcome
  of_run_alone work run = and_then (gate (moves_of work run)) (λ ms. entries_result work (λ d. entry (ink_of d)) (shapes ms))

  alone : (work : Work) (run more : List ℕ) (first second : RuleResult) → AreWholeOperands work.domain.multi run →
      of_run_alone work run ≡ Ok first → of_run_alone first.work more ≡ Ok second → of_run_alone work (run ++ more) ≡ Ok (as_one first second)
  alone = rule_joins entry keeps {B = Unit {0}} by (λ pen. Ok tt) (λ b ms. shapes ms) (λ s b c ms ns xs ys begins leads then_ more. onto ms ns xs ys leads more)

pub runs_join : RunsJoin
runs_join work Opcode.PointAbs run more first second joins whole = alone point_with point_keeps some_gate points_at points_join work run more first second whole
runs_join work Opcode.LineAbs run more first second joins whole =
    rule_joins line_with (λ s ink x is. refl) some_gate pen_point (λ p ms. option_map (polyline_spans p) (points_at ms)) lines_on work run more first second whole
runs_join work Opcode.SetLineAbs run more first second joins whole = alone line_with (λ s ink x is. refl) pairs_gate absolute_spans between_join work run more first second whole
runs_join work Opcode.SetRectOutlined run more first second joins whole = alone (rect_with false) (λ s ink x is. refl) pairs_gate relative_spans away_join work run more first second whole
runs_join work Opcode.SetRectFilled run more first second joins whole = alone (rect_with true) (λ s ink x is. refl) pairs_gate relative_spans away_join work run more first second whole
runs_join work _ run more first second joins whole = absurd joins
