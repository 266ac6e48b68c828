use Rattle.nap_reader.proofs.Common.{List, MoreBytesKeepEntries, MoreBytesKeepRefusal, Option, PiecesAgree, Refusal, [], ap, append-nil, append_assoc, begun, continue_by, in_pieces, joined, length, length-append, outcome_from, placed_from, sym, ℕ, ◌++◌, ◌∙◌, ◌∷◌, ◌≡◌}
use Rattle.nap_reader.proofs.StreamLemmas.{begun-append, continue_first}

pub more_bytes_keep_entries : MoreBytesKeepEntries
more_bytes_keep_entries budget p q = rw (begun-append budget p q) (continue_first (begun budget p).refusal (begun budget p) (placed_from (length p) q))

pub more_bytes_keep_refusal : MoreBytesKeepRefusal
more_bytes_keep_refusal budget p q r e =
    begun-append budget p q ∙ ap (λ (a : Option Refusal). continue_by outcome_from a (begun budget p) (placed_from (length p) q)) e

pieces_from : (budget : ℕ) (p : List ℕ) (pieces : List (List ℕ)) → in_pieces (length p) (begun budget p) pieces ≡ begun budget (p ++ joined pieces)
pieces_from budget p [] = ap (begun budget) (sym (append-nil p))
pieces_from budget p (piece ∷ pieces) = rw (← begun-append budget p piece, ← length-append p piece, ← append_assoc p piece (joined pieces)) (pieces_from budget (p ++ piece) pieces)

pub pieces_agree : PiecesAgree
pieces_agree budget pieces = pieces_from budget [] pieces
