use Rattle.std.specs.Prelude.{All, List, None, [], ℕ, ⊤, ◌%◌, ◌∷◌, ◌≡◌}
use Rattle.nap_canon.specs.Names.{Code, CodeSet, Opcode, lex_result, start_sets}

-- the opcode isn't a REL opcode
abbrev pub IsAbsolute : Opcode → Type 0
IsAbsolute Opcode.PointSetRel = ⊥
IsAbsolute Opcode.PointRel = ⊥
IsAbsolute Opcode.LineRel = ⊥
IsAbsolute Opcode.SetLineRel = ⊥
IsAbsolute _ = ⊤

-- The code uses no macro and isn't a REL opcode.
abbrev pub IsPlainCode : Code → Type 0
IsPlainCode (Code.DefMacro name show) = ⊥
IsPlainCode (Code.Designated number CodeSet.Macros) = ⊥
IsPlainCode (Code.Op op) = IsAbsolute op
IsPlainCode _ = ⊤

abbrev pub IsNoOpcode : Code → Type 0
IsNoOpcode (Code.Op op) = ⊥
IsNoOpcode _ = ⊤

-- The first opcode is DOMAIN, and no glyph or mask is defined before it; or there is no opcode.
unfoldable pub DomainFirst : List Code → Type 0
DomainFirst [] = ⊤
DomainFirst (Code.Op op ∷ rest) = op ≡ Opcode.Domain
DomainFirst (Code.DefGlyph byte ∷ rest) = All IsNoOpcode rest
DomainFirst (Code.DefMask mask ∷ rest) = All IsNoOpcode rest
DomainFirst (code ∷ rest) = DomainFirst rest

-- the word of eight words and of four comes next, by the byte 5F
abbrev pub LengthsNext : List Code → Type 0
LengthsNext (Code.Operand word ∷ rest) = word ≡ 31
LengthsNext _ = ⊥

-- DOMAIN comes next, after further operand words
unfoldable pub DomainNext : List Code → Type 0
DomainNext (Code.Operand word ∷ rest) = DomainNext rest
DomainNext (Code.Op Opcode.Domain ∷ rest) = ⊤
DomainNext _ = ⊥

-- after the words of RESET, DOMAIN comes if b1 of the first word resets the operand lengths
abbrev pub ResetNext : List Code → Type 0
ResetNext (Code.Operand word ∷ rest) = word % 2 ≡ 1 → DomainNext rest
ResetNext _ = ⊤

-- what has to come after a code
abbrev pub MayFollowCode : Code → List Code → Type 0
MayFollowCode (Code.Op Opcode.Domain) rest = LengthsNext rest
MayFollowCode (Code.Op Opcode.Reset) rest = ResetNext rest
MayFollowCode _ rest = ⊤

-- After each code comes what has to come there.
unfoldable pub AllMayFollow : List Code → Type 0
AllMayFollow [] = ⊤
AllMayFollow (code ∷ rest) = MayFollowCode code rest × AllMayFollow rest

-- the codes of a plain stream
pub record ArePlain (list : List Code) : Type 0 where
  pub each : All IsPlainCode list
  pub first : DomainFirst list
  pub follow : AllMayFollow list

-- A stream is plain: it is complete codes, which use no macro and no REL opcode, and DOMAIN keeps the operands at eight
-- words and four words.
pub record IsPlain (bytes : List ℕ) : Type 0 where
  pub unrefused : (lex_result start_sets bytes).fault ≡ None
  pub whole : (lex_result start_sets bytes).state.half ≡ []
  pub plain : ArePlain (lex_result start_sets bytes).codes
