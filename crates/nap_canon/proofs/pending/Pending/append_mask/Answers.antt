use Rattle.nap_canon.proofs.{AppendsCommands, AppendsPiece, Command, List, Texts.one_piece, [], command_piece, mask_commands, move_bytes, opcode, rules, subst, word_byte, ℕ, ◌∷◌, ◌≡◌}
use Rattle.nap_canon.proofs.pending.Pending.append_mask.Goals as goal

pub returns-in-Some-clause-appends : goal.returns-in-Some-clause-appends
returns-in-Some-clause-appends c =
    let w = c.args.self.now in
    let t = c.append_opcode_and_operands.new.self in
    let command = Command.texture_mask c.args.word c.in-Some.mask in
    let is : command ∷ [] ≡ mask_commands c.args.word c.args.old c.args.mask = search rules in
    let operands : c.word_byte-byte.result ∷ c.deref.result.now ≡ word_byte c.args.word ∷ move_bytes c.in-Some.mask = cc (c.word_byte-byte.ensures, c.deref.ensures.0, c.put_move.ensures) in
    subst (λ (cs : List Command). AppendsCommands cs w t) is
    (one_piece (command_piece command) (subst (λ (bs : List ℕ). AppendsPiece (opcode 0x23 bs) w t) operands c.append_opcode_and_operands.ensures.appends))

pub returns-in_default-clause-appends : goal.returns-in_default-clause-appends
returns-in_default-clause-appends c =
    let w = c.args.self.now in
    let t = c.append_opcode_and_operands-in_default.new.self in
    let command = Command.texture c.args.word in
    let is : command ∷ [] ≡ mask_commands c.args.word c.args.old c.args.mask = search rules in
    subst (λ (cs : List Command). AppendsCommands cs w t) is
    (one_piece (command_piece command) (subst (λ (byte : ℕ). AppendsPiece (opcode 0x23 (byte ∷ [])) w t) c.word_byte-byte.ensures c.append_opcode_and_operands-in_default.ensures.appends))
