use Rattle.std.proofs.Common.{◌≡◌, List, [], ◌∷◌, ◌++◌, refl}
use Rattle.nap_list.specs.{Types.Entry, Types.State, State.after, State.walk, State.AllFit, State.Fits, Laws.WalksJoin, Laws.FitsJoin}

-- How walks and fitting lists join.

-- the walk of two lists joined is the walk of the second from where the first ends
pub walk-append : (s : State) (xs ys : List Entry) → walk s (xs ++ ys) ≡ walk (walk s xs) ys
unfolding walk
walk-append s [] ys = refl
walk-append s (x ∷ xs) ys = walk-append (after s x) xs ys

pub walk_more : (s : State) (xs : List Entry) (x : Entry) → walk s (xs ++ x ∷ []) ≡ after (walk s xs) x
unfolding walk
walk_more s xs x = walk-append s xs (x ∷ [])

-- two lists fit one after the other exactly if they fit joined

pub fit-append : (s : State) (xs ys : List Entry) → AllFit s xs → AllFit (walk s xs) ys → AllFit s (xs ++ ys)
unfolding walk AllFit
fit-append s [] ys fit more = more
fit-append s (x ∷ xs) ys fit more = (fit.0, fit-append (after s x) xs ys fit.1 more)

pub fit_prefix : (s : State) (xs ys : List Entry) → AllFit s (xs ++ ys) → AllFit s xs
unfolding AllFit
fit_prefix s [] ys fit = tt
fit_prefix s (x ∷ xs) ys fit = (fit.0, fit_prefix (after s x) xs ys fit.1)

pub fit_rest : (s : State) (xs ys : List Entry) → AllFit s (xs ++ ys) → AllFit (walk s xs) ys
unfolding walk AllFit
fit_rest s [] ys fit = fit
fit_rest s (x ∷ xs) ys fit = fit_rest (after s x) xs ys fit.1

pub fit_more : (s : State) (xs : List Entry) (x : Entry) → AllFit s xs → Fits (walk s xs) x → AllFit s (xs ++ x ∷ [])
unfolding AllFit
fit_more s xs x fit fits = fit-append s xs (x ∷ []) fit (fits, tt)

pub walks_join : WalksJoin
walks_join = walk-append

pub fits_join : FitsJoin
fits_join s xs ys = (λ fit. (fit_prefix s xs ys fit, fit_rest s xs ys fit), λ both. fit-append s xs ys both.0 both.1)
