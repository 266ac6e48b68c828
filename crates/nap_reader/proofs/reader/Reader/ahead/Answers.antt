use Rattle.nap_reader.proofs.{AllCharacters, List, None, Some, ap, arith, at_prefix, budget_of, first_byte, is_of_text, is_operand_byte, opcode_alone, prefix_len, slice_get, subst, sym, ℕ, ◌+◌, ◌∙◌, ◌≡◌, Ahead, IsOpcode}
use Rattle.nap_reader.proofs.AheadLemmas.{after_first, closed_by_characters, no_operand, opcode_adds, text_adds}
use Rattle.nap_reader.proofs.reader.Reader.ahead.Goals as goal
use Rattle.nap_reader.proofs.reader.Reader.ahead.Goals.{then-byte-lt64+in_default-opcode, else-byte-lt64}

-- an opcode and its operands
pub returns-in-Some-opcode-clause-adds_entries : goal.returns-in-Some-opcode-clause-adds_entries
returns-in-Some-opcode-clause-adds_entries g c = λ live s p has_read j some few.
    let b = c.in-Some.byte.now in
    let op = c.in-Some-opcode.field-0 in
    let (rest, parts) = first_byte c.args.piece.now b (sym c.in-Some.ensures.value) in
    rw parts (opcode_adds (budget_of c.args.self.now) p (has_read.continues live) c.in_default-body.is ((c.opcode.ensures.is op).0 c.in-Some-opcode.is).0 b op c.in-Some-opcode.ensures.front
    (no_operand b (omega (arith, c.if-byte-lt64.true))) rest c.operand_prefix_len.result (rw parts at c.operand_prefix_len.ensures) j some few)

-- characters
pub returns-then-count-gt0-clause-adds_entries : goal.returns-then-count-gt0-clause-adds_entries
returns-then-count-gt0-clause-adds_entries g c = λ live s p has_read.
    let machine = c.args.self.now.machine in
    let piece = c.args.piece.now in
    let set = c.in-Some-char_set.field-0 in
    let chars = (c.char_set.ensures set).0 c.in-Some-char_set.is in
    let are : AllCharacters machine.lexer.sets set = λ b graphic. (chars b graphic).1 in
    text_adds (budget_of c.args.self.now) p piece c.text_bytes-count.result.now (has_read.continues live) (record {
      between = c.in_default-body.is;
      closed = closed_by_characters machine.lexer set machine.open_run machine.drawing are;
      rested = (chars 0x20 (omega arith, omega arith)).0;
      chars = are;
      typed = c.text_bytes-count.ensures.typed;
    }) (at_prefix is_of_text piece c.text_bytes-count.result.now c.text_bytes-count.ensures.bytes).1

-- an opcode is counted with all its operands
pub returns-in-Some-opcode-clause-counts : goal.returns-in-Some-opcode-clause-counts
returns-in-Some-opcode-clause-counts g c = λ none. (
  λ b rest op parts low is.
      ap (λ (n : ℕ). Ahead.First (1 + n)) (rw parts at c.operand_prefix_len.ensures ∙ ap (prefix_len is_operand_byte) (after_first b rest)),
  λ set chars some. absurd (opcode_alone c.args.self.now.machine.lexer.sets c.in-Some.byte.now c.in-Some-opcode.field-0 c.in-Some-opcode.ensures.front set (λ b graphic. (chars b graphic).1)),
)

-- no opcode comes, and no text
pub returns-in_default-char_set-clause-counts : goal.returns-in_default-char_set-clause-counts
returns-in_default-char_set-clause-counts g c = λ none. (
  λ b rest op parts low is.
      let byte = c.in-Some.byte.now in
      let found : Some b ≡ Some byte = sym (ap (λ (bs : List ℕ). slice_get bs 0) parts) ∙ sym c.in-Some.ensures.value in
      let same : byte ≡ b = cc in
      elim c.if-byte-lt64.branch [
        | then-byte-lt64+in_default-opcode w ↦
            let known = (w.opcode.ensures.is op).1 (subst (λ (b : ℕ). IsOpcode c.args.self.now.machine.lexer b op) (sym same) is) in
            let none : None ≡ Some op = sym w.in_default-opcode.is ∙ known in
            let bad : ⊥ = cc in absurd bad
        | else-byte-lt64 w ↦ absurd (omega (arith, same, low, w.if-byte-lt64.false))
      ],
  λ set chars some. absurd (let none : None ≡ Some set = sym c.in_default-char_set.is ∙ (c.char_set.ensures set).1 chars in let bad : ⊥ = cc in bad),
)
