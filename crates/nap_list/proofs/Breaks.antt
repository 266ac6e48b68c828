use Rattle.nap_list.proofs.{AllFit, Entry, Err, Fits, IsErrOf, IsIllegalAt, IsSome, IsTrue, Legal, LegalIsNowhereIllegal, List, None, Ok, OpenDefinition, Option, State, [], after, ap, arith, drop, drop-cons, false, get_or, inl, inr, is_some, length, length-take, refl, start, suc, sym, take, take-append-drop, take_all, take_more, true, walk, zero, ℕ, ◌++◌, ◌+◌, ◌<◌, ◌↔◌, ◌∙◌, ◌∷◌, ◌≡◌, ◌≤◌}

-- A list is illegal at one index at most, and a legal list at none: by the place along a walk, entry after entry.

unfoldable Breaks : State → List Entry → ℕ → Type 0
Breaks s [] i = (i ≡ 0) × IsSome s.definition
Breaks s (e ∷ es) zero = Fits s e → ⊥
Breaks s (e ∷ es) (suc i) = Fits s e × Breaks (after s e) es i

at_misfit : (s : State) (prefix : List Entry) (e : Entry) (rest : List Entry) → AllFit s prefix → (Fits (walk s prefix) e → ⊥) → Breaks s (prefix ++ e ∷ rest) (length prefix)
unfolding Breaks walk AllFit
at_misfit s [] e rest fit misfit = misfit
at_misfit s (x ∷ prefix) e rest fit misfit = (fit.0, at_misfit (after s x) prefix e rest fit.1 misfit)

at_end : (s : State) (es : List Entry) → AllFit s es → IsSome (walk s es).definition → Breaks s es (length es)
unfolding Breaks walk AllFit
at_end s [] fit opened = (refl, opened)
at_end s (e ∷ es) fit opened = (fit.0, at_end (after s e) es fit.1 opened)

along : (es : List Entry) (i : ℕ) → IsIllegalAt i es → Breaks start es i
along es i (inl misfit) = rw (misfit.parts, ← misfit.place) (at_misfit start misfit.prefix misfit.entry misfit.rest misfit.before misfit.misfit)
along es i (inr opened) = rw (← opened.place) (at_end start es opened.fit opened.opened)

once : (s : State) (es : List Entry) (i j : ℕ) → Breaks s es i → Breaks s es j → i ≡ j
unfolding Breaks
once s [] i j a b = rw (a.0, b.0)
once s (e ∷ es) zero zero a b = refl
once s (e ∷ es) zero (suc j) a b = absurd (a b.0)
once s (e ∷ es) (suc i) zero a b = absurd (b a.0)
once s (e ∷ es) (suc i) (suc j) a b = ap suc (once (after s e) es i j a.1 b.1)

none_opened : (o : Option OpenDefinition) → o ≡ None → IsSome o → ⊥
none_opened = grind arith

never : (s : State) (es : List Entry) (i : ℕ) → AllFit s es → (walk s es).definition ≡ None → Breaks s es i → ⊥
unfolding Breaks walk AllFit
never s [] i fit ended breaks = none_opened s.definition ended breaks.1
never s (e ∷ es) zero fit ended breaks = breaks fit.0
never s (e ∷ es) (suc i) fit ended breaks = never (after s e) es i fit.1 ended breaks.1

-- a list, cut before the entry at an index
module _ (es : List Entry) (i : ℕ) (e : Entry) (lt : i < length es) (is : e ≡ get_or es i e) where
  cut_at : es ≡ take i es ++ e ∷ drop (suc i) es
  cut_at = sym (take-append-drop i es) ∙ ap (λ xs. take i es ++ xs) (drop-cons es i e lt ∙ ap (λ x. x ∷ drop (suc i) es) (sym is))

  pub one_more : take (i + 1) es ≡ take i es ++ e ∷ []
  one_more = take_more es i e lt ∙ ap (λ x. take i es ++ x ∷ []) (sym is)

  -- the entry at an index doesn't fit the state that the entries before it leave, and these fit
  pub misfit_at : (s : State) → s ≡ walk start (take i es) → AllFit start (take i es) → (Fits s e → ⊥) → IsIllegalAt i es
  misfit_at s state before misfit = inl (record {
    prefix = take i es;
    entry = e;
    rest = drop (suc i) es;
    parts = cut_at;
    place = omega (arith, length-take i es);
    before = before;
    misfit = rw state at misfit;
  })

pub breaks_once : (es : List Entry) (i j : ℕ) → IsIllegalAt i es → IsIllegalAt j es → i ≡ j
breaks_once es i j a b = once start es i j (along es i a) (along es j b)

pub legal_never_breaks : LegalIsNowhereIllegal
legal_never_breaks es i legal breaks = never start es i legal.fit legal.ended (along es i breaks)

-- the answers, by where the walk stopped

pub no_break : (es : List Entry) → Legal es → (j : ℕ) → IsErrOf {T = Unit {0}} {E = ℕ} (Ok tt) j ↔ IsIllegalAt j es
no_break es legal j = (λ is. cc, λ breaks. absurd (legal_never_breaks es j legal breaks))

module _ (es : List Entry) (i : ℕ) (breaks : IsIllegalAt i es) where
  pub only_break : (j : ℕ) → IsErrOf {T = Unit {0}} {E = ℕ} (Err i) j ↔ IsIllegalAt j es
  only_break j = (λ is. let same : i ≡ j = cc in rw same at breaks, λ other. cc (breaks_once es i j breaks other))

  pub not_legal : IsTrue false ↔ Legal es
  not_legal = (λ is. cc, λ legal. absurd (legal_never_breaks es i legal breaks))

-- the end of the list

is_none : (o : Option OpenDefinition) → is_some o ≡ false → o ≡ None
is_none = grind arith

module _ (es : List Entry) (i : ℕ) (s : State) (le : length es ≤ i) (state : s ≡ walk start (take i es)) (fit : AllFit start (take i es)) where
  all : take i es ≡ es
  all = take_all i es le

  pub ends_open : is_some s.definition ≡ true → IsIllegalAt (length es) es
  ends_open opened = inr (record { place = refl; fit = rw all at fit; opened = rw (state, all) at opened })

  pub ends_legal : is_some s.definition ≡ false → Legal es
  ends_legal ended = record { fit = rw all at fit; ended = rw (state, all) at (is_none s.definition ended) }
