use Rattle.nap_canon.proofs.{AppendsPiece, List, Piece, Texts.both_appended, Texts.one_piece, [], domain_again, opcode, refl, subst, word_byte, ℕ, ◌∷◌, ◌≡◌}
use Rattle.nap_canon.proofs.pending.Pending.append_reset.Goals as goal

pub returns : goal.returns
returns c =
    let w = c.args.self.now in
    let m = c.append_opcode_and_operands.new.self in
    let first : Piece = opcode 0x20 (word_byte c.args.first ∷ word_byte c.args.second ∷ []) in
    let words : c.word_byte.result ∷ c.word_byte-2.result ∷ [] ≡ word_byte c.args.first ∷ word_byte c.args.second ∷ [] = rw (c.word_byte.ensures, c.word_byte-2.ensures) refl in
    both_appended (first ∷ []) (domain_again c.args.first) refl
    (one_piece first (subst (λ (bs : List ℕ). AppendsPiece (opcode 0x20 bs) w m) words c.append_opcode_and_operands.ensures.appends)) c.append_domain_again.ensures
