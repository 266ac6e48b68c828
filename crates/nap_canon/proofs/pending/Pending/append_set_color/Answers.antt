use Rattle.nap_canon.proofs.{Texts.grb_size, arith, length, length-take-le}
use Rattle.nap_canon.proofs.pending.Pending.append_set_color.Goals as goal

pub slice_bounds-append_opcode_and_operands-end-2 : goal.slice_bounds-append_opcode_and_operands-end-2
slice_bounds-append_opcode_and_operands-end-2 c = grind (arith, length, grb_size, length-take-le)
