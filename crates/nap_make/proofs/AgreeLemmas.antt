-- Lines have one answer, lack of memory and failed devices apart.

use Rattle.nap_make.proofs.{All, All-cons, All-head, All-nil, All-tail, AllFit, AllInRange, AreLines, BeginsNoLine, Entry, FeedLemmas.lines_first, FeedLemmas.one_column, Fits, InRange, IsProper, IsSome, LinesSoFar, List, MakeFault, None, OpenedAt, PublicLaws.line_tells_entry, PublicLaws.lines_have_no_ends, State, TellsColumn, ValueLemmas.no_cut, ValueLemmas.one_cut, [], after, ap, append-nil, append_assoc, ap₂, arith, false≢true, is_some, length, line, Common.lines, refl, start, subst, sym, walk, walks_join, ℕ, ◌++◌, ◌+◌, ◌∙◌, ◌∷◌, ◌≡◌, ◌≢◌, ◌≤◌}
use Rattle.nap_make.specs.Laws.{AnswersOfMakeAgree, HaveFault}

-- Where lines stop.

-- equal bytes begin with the line of one entry
same_line : (x y : Entry) (a b : List ℕ) → IsProper x → IsProper y → line x ++ 10 ∷ a ≡ line y ++ 10 ∷ b →
    (x ≡ y) × (a ≡ b)
same_line x y a b one two is =
    let whole = lines_have_no_ends x one.in_range in
    let same = one_cut 10 (line x) a (line y) b whole (lines_have_no_ends y two.in_range) is in
    (line_tells_entry x y one.in_range two.in_range same.0, same.1)

no_line : (e : Entry) (more : List ℕ) → [] ≢ line e ++ 10 ∷ more
no_line e more is = no_cut 10 [] (line e) more (All-nil (λ x. x ≢ 10)) is

-- no line of an entry that fits begins these bytes
abbrev Stops : State → List ℕ → Type 0
Stops s rest = (e : Entry) (more : List ℕ) → IsProper e → Fits s e → rest ≢ line e ++ 10 ∷ more

-- these entries fit, and after them no line of one that fits begins the rest
abbrev StopsAfter : State → List Entry → List ℕ → Type 0
StopsAfter s es rest = All IsProper es × AllFit s es × Stops (walk s es) rest

-- lines stop after the same entries
one_stop : (s : State) (d e : List Entry) (a b : List ℕ) → StopsAfter s d a → StopsAfter s e b →
    lines d ++ a ≡ lines e ++ b → (d ≡ e) × (a ≡ b)
unfolding AllFit walk
one_stop s [] [] a b one two is = (refl, is)
one_stop s [] (y ∷ e) a b one two is =
    absurd (one.2 y (lines e ++ b) (All-head IsProper y e two.0) two.1.0 (is ∙ lines_first y e b))
one_stop s (x ∷ d) [] a b one two is =
    absurd (two.2 x (lines d ++ a) (All-head IsProper x d one.0) one.1.0 (sym is ∙ lines_first x d a))
one_stop s (x ∷ d) (y ∷ e) a b one two is =
    let parts = sym (lines_first x d a) ∙ is ∙ lines_first y e b in
    let x_proper = All-head IsProper x d one.0 in
    let same = same_line x y (lines d ++ a) (lines e ++ b) x_proper (All-head IsProper y e two.0) parts in
    let left : StopsAfter (after s x) d a = (All-tail IsProper x d one.0, one.1.1, one.2) in
    let right : StopsAfter (after s y) e b = (All-tail IsProper y e two.0, two.1.1, two.2) in
    let also = subst (λ z. StopsAfter (after s z) e b) (sym same.0) right in
    let others = one_stop (after s x) d e a b left also same.1 in
    (ap₂ (λ (z : Entry) (zs : List Entry). z ∷ zs) same.0 others.0, others.1)

-- The definition that is left open.

abbrev EndsNone : List Entry → Type 0
EndsNone es = All (λ e. e ≢ Entry.DefEnd) es

-- a definition stays open past an entry that doesn't end it
stays_open : (s : State) (e : Entry) → IsSome s.definition → e ≢ Entry.DefEnd → IsSome (after s e).definition
stays_open s (Entry.GlyphStart code) opens other = refl
stays_open s (Entry.MaskStart mask) opens other = refl
stays_open s Entry.DefEnd opens other = absurd (other refl)
stays_open s _ opens other = opens

-- and past the first of more
all_open : (s : State) (es more : List Entry) → IsSome s.definition → EndsNone (es ++ more) →
    IsSome (walk s es).definition
unfolding walk
all_open s [] more opens none = opens
all_open s (e ∷ es) more opens none =
    let still = stays_open s e opens (All-head (λ x. x ≢ Entry.DefEnd) e (es ++ more) none) in
    all_open (after s e) es more still (All-tail (λ x. x ≢ Entry.DefEnd) e (es ++ more) none)

not_both : (s : State) → s.definition ≡ None → IsSome s.definition → ⊥
not_both s closed opens = false≢true (sym (ap is_some closed) ∙ opens)

-- where none is open after b, what opens after a and isn't ended isn't before b
not_later : (s : State) (a b m n : List Entry) (x y : Entry) → a ++ x ∷ m ≡ b ++ y ∷ n →
    IsSome (walk s (a ++ x ∷ [])).definition → EndsNone m → (walk s b).definition ≡ None → length b ≤ length a
unfolding walk
not_later s a [] m n x y is opens none closed = omega arith
not_later s [] (z ∷ b) m n x y is opens none closed =
    let same : x ≡ z = cc in
    let back : m ≡ b ++ y ∷ n = cc in
    let first = subst (λ e. IsSome (after s e).definition) same opens in
    absurd (not_both (walk (after s z) b) closed (all_open (after s z) b (y ∷ n) first (subst EndsNone back none)))
not_later s (c ∷ a) (z ∷ b) m n x y is opens none closed =
    let same : c ≡ z = cc in
    let back : a ++ x ∷ m ≡ b ++ y ∷ n = cc in
    let first = subst (λ e. IsSome (walk (after s e) (a ++ x ∷ [])).definition) same opens in
    let less = not_later (after s z) a b m n x y back first none closed in
    omega (arith, less)

one_opening : (es : List Entry) (m n : ℕ) → OpenedAt es m → OpenedAt es n → m ≡ n
one_opening es m n one two = omega (arith, one.place, two.place, up one two, up two one)
  where
    up : {m n : ℕ} (h : OpenedAt es m) (k : OpenedAt es n) → length k.before ≤ length h.before
    up h k =
        let parts = sym h.parts ∙ k.parts in
        not_later start h.before k.before h.inside k.inside h.opening k.opening parts h.opens h.unended k.closed

left_open : (es : List Entry) (n : ℕ) → OpenedAt es n → IsSome (walk start es).definition
left_open es n h =
    let first = h.before ++ h.opening ∷ [] in
    let unended = subst EndsNone (sym (append-nil h.inside)) h.unended in
    let parts = append_assoc h.before (h.opening ∷ []) h.inside ∙ sym h.parts in
    let state = sym (walks_join start first h.inside) ∙ ap (walk start) parts in
    subst (λ (s : State). IsSome s.definition) state (all_open (walk start first) h.inside [] h.opens unended)

-- The answers.

-- what a fault says of the entries before it and of the bytes behind them
abbrev Says : List Entry → List ℕ → MakeFault → Type 0
Says es rest (MakeFault.Line number column) =
    (number ≡ length es + 1) × (rest ≢ []) × BeginsNoLine rest × TellsColumn rest column
Says es rest (MakeFault.Misfit number) =
    (number ≡ length es + 1) × (rest ≢ []) × (e : Entry) × (more : List ℕ) × IsProper e × (rest ≡ line e ++ 10 ∷ more)
Says es rest (MakeFault.Open number opening) = (number ≡ length es) × (rest ≡ []) × OpenedAt es opening
Says es rest _ = ⊥

-- the bytes are the lines of these entries and this rest, before which they stop
abbrev StopsAt : List ℕ → List Entry → List ℕ → Type 0
StopsAt p es rest = LinesSoFar p es rest × Stops (walk start es) rest

one_place : {p : List ℕ} {d e : List Entry} {a b : List ℕ} → StopsAt p d a → StopsAt p e b → (d ≡ e) × (a ≡ b)
one_place {d = d} {e = e} {a = a} {b = b} one two =
    let parts = sym one.0.parts ∙ two.0.parts in
    one_stop start d e a b (one.0.proper, one.0.fit, one.1) (two.0.proper, two.0.fit, two.1) parts

says : (p : List ℕ) (es : List Entry) (f : MakeFault) → HaveFault p es f →
    (rest : List ℕ) × StopsAt p es rest × Says es rest f
says p es (MakeFault.Line number column) h =
    let some : h.rest ≢ [] = λ is. omega (arith, h.some, ap length is) in
    (h.rest, (h.so_far, λ e more proper fits. h.none e more proper), (h.place, some, h.none, h.begins))
says p es (MakeFault.Misfit number) h =
    let some : line h.entry ++ 10 ∷ h.rest ≢ [] = λ is. no_line h.entry h.rest (sym is) in
    (line h.entry ++ 10 ∷ h.rest, (h.so_far, stops), (h.place, some, h.entry, h.rest, h.proper, refl))
  where
    stops : Stops (walk start es) (line h.entry ++ 10 ∷ h.rest)
    stops e more proper fits is =
        h.misfit (subst (Fits (walk start es)) (sym (same_line h.entry e h.rest more h.proper proper is).0) fits)
says p es (MakeFault.Open number opening) h =
    ([], (h.so_far, λ e more proper fits. no_line e more), (h.place, refl, h.opened))
says p es _ h = absurd (let no : ⊥ = search in no)

one_fault : (es : List Entry) (rest : List ℕ) (f g : MakeFault) → Says es rest f → Says es rest g → f ≡ g
one_fault es rest (MakeFault.Line m c) (MakeFault.Line n d) h k =
    ap₂ (λ (x y : ℕ). MakeFault.Line x y) (h.0 ∙ sym k.0) (one_column rest c d h.3 k.3)
one_fault es rest (MakeFault.Misfit m) (MakeFault.Misfit n) h k = ap MakeFault.Misfit (h.0 ∙ sym k.0)
one_fault es rest (MakeFault.Open m a) (MakeFault.Open n b) h k =
    ap₂ (λ (x y : ℕ). MakeFault.Open x y) (h.0 ∙ sym k.0) (one_opening es a b h.2 k.2)
one_fault es rest (MakeFault.Line m c) (MakeFault.Misfit n) h k = absurd (h.2 k.2 k.3 k.4 k.5)
one_fault es rest (MakeFault.Misfit m) (MakeFault.Line n d) h k = absurd (k.2 h.2 h.3 h.4 h.5)
one_fault es rest (MakeFault.Open m a) (MakeFault.Line n d) h k = absurd (k.1 h.1)
one_fault es rest (MakeFault.Open m a) (MakeFault.Misfit n) h k = absurd (k.1 h.1)
one_fault es rest (MakeFault.Line m c) (MakeFault.Open n b) h k = absurd (h.1 k.1)
one_fault es rest (MakeFault.Misfit m) (MakeFault.Open n b) h k = absurd (h.1 k.1)
one_fault es rest _ _ h k = absurd (let no : ⊥ = search in no)

-- nothing is wrong at the end of a legal list
no_fault : (es : List Entry) (rest : List ℕ) (f : MakeFault) → [] ≡ rest → (walk start es).definition ≡ None →
    Says es rest f → ⊥
no_fault es rest (MakeFault.Line number column) empty closed h = h.1 (sym empty)
no_fault es rest (MakeFault.Misfit number) empty closed h = h.1 (sym empty)
no_fault es rest (MakeFault.Open number opening) empty closed h =
    not_both (walk start es) closed (left_open es opening h.2)
no_fault es rest _ empty closed h = h

all_proper : (s : State) (es : List Entry) → AllInRange es → AllFit s es → All IsProper es
unfolding AllFit
all_proper s [] range fit = All-nil IsProper
all_proper s (e ∷ es) range fit =
    let first : IsProper e = record { in_range = All-head InRange e es range; well_made = fit.0.made } in
    All-cons IsProper e es first (all_proper (after s e) es (All-tail InRange e es range) fit.1)

list_stops : (p : List ℕ) (es : List Entry) → AreLines p es → StopsAt p es []
list_stops p es are =
    let proper = all_proper start es are.in_range are.legal.fit in
    let parts = are.lines_are ∙ sym (append-nil (lines es)) in
    (record { proper = proper; fit = are.legal.fit; parts = parts }, λ e more proper fits. no_line e more)

pub answers_agree : AnswersOfMakeAgree
answers_agree p = record {
  one = λ d e f g first second.
      let a = says p d f first in
      let b = says p e g second in
      let same = one_place a.1 b.1 in
      let here = subst (λ es. Says es a.0 f) same.0 a.2 in
      (same.0, one_fault e b.0 f g (subst (λ rest. Says e rest f) same.1 here) b.2);
  none = λ d e f are fault.
      let a = says p e f fault in
      let same = one_place (list_stops p d are) a.1 in
      no_fault e a.0 f same.1 (subst (λ es. (walk start es).definition ≡ None) same.0 are.legal.ended) a.2;
}
