use Rattle.nap_canon.proofs.{AppendsPiece, List, Texts.addr_size, [], addr_bytes, ap, arith, length, length-take-le, opcode, refl, subst, take, take_all, word_byte, ℕ, ◌++◌, ◌∙◌, ◌∷◌, ◌≡◌}
use Rattle.nap_canon.proofs.pending.Pending.append_blink.Goals as goal

pub slice_bounds-append_opcode_and_operands-end : goal.slice_bounds-append_opcode_and_operands-end
slice_bounds-append_opcode_and_operands-end c = grind (arith, length, addr_size, length-take-le)

pub returns : goal.returns
returns c =
    let times : List ℕ = word_byte c.args.on ∷ word_byte c.args.off ∷ word_byte c.args.delay ∷ [] in
    let whole : take 4 c.deref.result.now ≡ addr_bytes c.args.addr =
    ap (take 4) (c.deref.ensures.0 ∙ c.put_addr.ensures) ∙ take_all 4 (addr_bytes c.args.addr) (omega (arith, addr_size c.args.addr)) in
    let times_are : c.word_byte.result ∷ c.word_byte-2.result ∷ c.word_byte-3.result ∷ [] ≡ times = rw (c.word_byte.ensures, c.word_byte-2.ensures, c.word_byte-3.ensures) refl in
    subst (λ (operands : List ℕ). AppendsPiece (opcode 0x3F operands) c.args.self.now c.append_opcode_and_operands.new.self)
    (ap (λ (address : List ℕ). address ++ (c.word_byte.result ∷ c.word_byte-2.result ∷ c.word_byte-3.result ∷ [])) whole ∙ ap (λ (words : List ℕ). addr_bytes c.args.addr ++ words) times_are)
    c.append_opcode_and_operands.ensures.appends
