use Rattle.nap_canon.proofs.{AppendsPiece, List, Texts.addr_size, addr_bytes, ap, arith, length, length-take-le, opcode, subst, take, take_all, ℕ, ◌∙◌, ◌≡◌}
use Rattle.nap_canon.proofs.pending.Pending.append_select_front.Goals as goal

pub slice_bounds-append_opcode_and_operands-end-2 : goal.slice_bounds-append_opcode_and_operands-end-2
slice_bounds-append_opcode_and_operands-end-2 c = grind (arith, length, addr_size, length-take-le)

pub returns-clause-appends : goal.returns-clause-appends
returns-clause-appends c =
    let whole : take 4 c.deref.result.now ≡ addr_bytes c.args.addr =
    ap (take 4) (c.deref.ensures.0 ∙ c.put_addr.ensures) ∙ take_all 4 (addr_bytes c.args.addr) (omega (arith, addr_size c.args.addr)) in
    subst (λ (operand : List ℕ). AppendsPiece (opcode 0x3E operand) c.args.self.now c.append_opcode_and_operands.new.self) whole c.append_opcode_and_operands.ensures.appends
