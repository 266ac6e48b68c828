use Rattle.std.specs.Prelude.{ℕ, ◌==◌, if◌then◌else◌, Option, Some, None}
use Rattle.nap_codes.specs.Types.{CharSet, CodeSet, CodeSets, GSet}
use Rattle.nap_codes.specs.declared.code_set.CodeSet.TheVariants.{Primary, Supplementary, Pdi, Mosaic, Macros, Drcs}
use Rattle.nap_codes.specs.declared.code_set.GSet.TheVariants.{G0, G1, G2, G3}

-- the code sets at the start of a stream
abbrev pub start_sets : CodeSets
start_sets = record { g0 = Primary; g1 = Pdi; g2 = Supplementary; g3 = Mosaic; gl = G0 }

-- the character set, or none for the PDI set and the macro set
abbrev pub char_set_of : CodeSet → Option CharSet
char_set_of Primary = Some CharSet.Primary
char_set_of Supplementary = Some CharSet.Supplementary
char_set_of Mosaic = Some CharSet.Mosaic
char_set_of Drcs = Some CharSet.Drcs
char_set_of Macros = None
char_set_of Pdi = None

-- the set in a register
abbrev pub set_at : CodeSets → GSet → CodeSet
set_at sets G0 = sets.g0
set_at sets G1 = sets.g1
set_at sets G2 = sets.g2
set_at sets G3 = sets.g3

-- the code sets with this set in the register of this number
unfoldable pub with_set : CodeSets → ℕ → CodeSet → CodeSets
with_set sets number set =
    if number == 0 then record sets { g0 = set }
    else if number == 1 then record sets { g1 = set }
    else if number == 2 then record sets { g2 = set }
    else record sets { g3 = set }

-- the code sets after a control of the C0 set: SO puts G1 into GL, SI puts G0 into GL
unfoldable pub after_control0 : CodeSets → ℕ → CodeSets
after_control0 sets byte =
    if byte == 0x0E then record sets { gl = G1 }
    else if byte == 0x0F then record sets { gl = G0 }
    else sets
