use Rattle.std.proofs.Common.{ℕ, ◌≡◌, List, [], ◌∷◌, ◌++◌, refl, ap, sym, ◌∙◌, append_assoc}
use Rattle.nap_canon.specs.{declared.text_end.TextEnd.TextEnd, declared.text.Form.Form, Names.Entry, Names.State, Names.after, Names.walk, Spelling.Piece, Text.piece_bytes, Text.text_end_after_piece, Text.pieces_bytes, Text.text_end_after, Text.entry_pieces, Text.pieces}

-- pieces after others

pub pieces_bytes-append : (t : TextEnd) (ps qs : List Piece) → pieces_bytes t (ps ++ qs) ≡ pieces_bytes t ps ++ pieces_bytes (text_end_after t ps) qs
unfolding pieces_bytes text_end_after
pieces_bytes-append t [] qs = refl
pieces_bytes-append t (p ∷ ps) qs =
    ap (λ (bs : List ℕ). piece_bytes t p ++ bs) (pieces_bytes-append (text_end_after_piece t p) ps qs)
    ∙ sym (append_assoc (piece_bytes t p) (pieces_bytes (text_end_after_piece t p) ps) (pieces_bytes (text_end_after (text_end_after_piece t p) ps) qs))

pub text_end_after-append : (t : TextEnd) (ps qs : List Piece) → text_end_after t (ps ++ qs) ≡ text_end_after (text_end_after t ps) qs
unfolding text_end_after
text_end_after-append t [] qs = refl
text_end_after-append t (p ∷ ps) qs = text_end_after-append (text_end_after_piece t p) ps qs

pub pieces-append : (form : Form) (s : State) (es fs : List Entry) → pieces form s (es ++ fs) ≡ pieces form s es ++ pieces form (walk s es) fs
unfolding pieces walk
pieces-append form s [] fs = refl
pieces-append form s (e ∷ es) fs =
    ap (λ (ps : List Piece). entry_pieces form s e ++ ps) (pieces-append form (after s e) es fs)
    ∙ sym (append_assoc (entry_pieces form s e) (pieces form (after s e) es) (pieces form (walk (after s e) es) fs))
