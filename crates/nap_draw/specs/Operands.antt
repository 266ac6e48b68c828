use Rattle.std.specs.Prelude.{List, [], map, suc, zero, ℕ, ◌++◌, ◌-◌, ◌∷◌}
use Rattle.nap_draw.specs.Names.{Displacement, multi_of, single_of}

-- the words cut into operands of k words, after an operand that still lacks a number of words
unfoldable pub cut_operands : ℕ → ℕ → List ℕ → List ℕ → List (List ℕ)
cut_operands k lacking operand [] = operand ∷ []
cut_operands k zero operand (word ∷ words) = operand ∷ cut_operands k (k - 1) (word ∷ []) words
cut_operands k (suc lacking) operand (word ∷ words) = cut_operands k lacking (operand ++ word ∷ []) words

-- the operands of a run, of k words each; the last may have fewer
unfoldable pub operands : ℕ → List ℕ → List (List ℕ)
operands k [] = []
operands k (word ∷ words) = cut_operands k (k - 1) (word ∷ []) words

-- the displacements that the operands of a run spell
abbrev pub moves : ℕ → List ℕ → List Displacement
moves k run = map multi_of (operands k run)

-- the addresses that the operands of a run spell
abbrev pub addresses : ℕ → List ℕ → List ℕ
addresses k run = map single_of (operands k run)
