use Rattle.nap_reader.proofs.{Bool, Innermost, IsOver, IsTrue, List, arith, body_next, bytes_of, drop, false, is_operand_byte, none_left, not, piece_next, subst, sym, take_rest, true, unread, ℕ, ◌++◌, ◌∷◌, ◌≡◌}
use Rattle.nap_reader.proofs.input.Input.next_slice.Goals as goal
use Rattle.nap_reader.proofs.input.Input.next_slice.Goals.{In-Some}

pub returns-then-self-piece : goal.returns-then-self-piece
returns-then-self-piece c = none_left c.args.self.now c.args.piece.now c.in_default.ensures (omega (arith, c.if-self-piece.true))

pub returns-in_default : goal.returns-in_default
returns-in_default c = rw (take_rest c.args.piece.now c.args.self.now.at) (piece_next c.requires c.in_default.ensures (omega (arith, c.requires.within, c.if-self-piece.false)))

-- the innermost body
inner : (c : In-Some) → Innermost c.args.self.now.store.bytes c.args.self.now.frames.stack.items c.in-Some.bytes.now c.in-Some.place
inner c = subst (λ (stored : List ℕ). Innermost stored c.args.self.now.frames.stack.items c.in-Some.bytes.now c.in-Some.place) c.bytes.ensures c.in-Some.ensures

-- a run is over if the first byte after it is no operand byte
over_by : (bytes : List ℕ) (b : ℕ) (rest : List ℕ) → bytes ≡ b ∷ rest → (operand : Bool) → operand ≡ is_operand_byte b → IsTrue (not operand) → IsOver bytes
over_by bytes b rest is true operand ends = let bad : false ≡ true = ends in cc
over_by bytes b rest is false operand ends = record { byte = b; rest = rest; is = is; other = sym operand }

pub returns-in-Some-byte_after : goal.returns-in-Some-byte_after
returns-in-Some-byte_after c =
    let i = inner (goal.at.returns-in-Some-byte_after c).In-Some in
    let (rest, is) = c.in-Some-byte_after.ensures i.before i.frame i.last in
    body_next c.requires i (λ ended. subst (λ (stored : List ℕ). IsOver (bytes_of (unread stored i.before) ++ drop c.args.self.now.at c.args.piece.now)) c.bytes-2.ensures (over_by _ c.in-Some-byte_after.byte rest is c.is_operand.result c.is_operand.ensures ended))

pub returns-in-None : goal.returns-in-None
returns-in-None c = body_next c.requires (inner (goal.at.returns-in-None c).In-Some) (λ ended. let bad : false ≡ true = ended in cc)
