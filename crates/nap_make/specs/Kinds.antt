use Rattle.std.specs.Prelude.{List, [], codes, ℕ, ◌++◌, ◌∷◌, ◌≡◌, ◌≢◌}
use Rattle.nap_make.specs.Types.{Kind, Sort}

-- The kinds of lines, by what they begin with.

-- the name that a line of the kind begins with
abbrev pub line_name : Kind → List ℕ
line_name Kind.Point = codes "POINT"
line_name Kind.Line = codes "LINE"
line_name Kind.ArcOutlined = codes "ARC-OUTLINED"
line_name Kind.ArcFilled = codes "ARC-FILLED"
line_name Kind.RectOutlined = codes "RECT-OUTLINED"
line_name Kind.RectFilled = codes "RECT-FILLED"
line_name Kind.PolyOutlined = codes "POLY-OUTLINED"
line_name Kind.PolyFilled = codes "POLY-FILLED"
line_name Kind.Char = codes "CHAR"
line_name Kind.Move = codes "MOVE"
line_name Kind.Position = codes "MOVE"
line_name Kind.ToEol = codes "TO-EOL"
line_name Kind.Map = codes "MAP"
line_name Kind.Blink = codes "BLINK"
line_name Kind.BlinkEnd = codes "BLINK-END"
line_name Kind.BlinkStart = codes "BLINK-START"
line_name Kind.BlinkStop = codes "BLINK-STOP"
line_name Kind.Wait = codes "WAIT"
line_name Kind.Cursor = codes "CURSOR"
line_name Kind.Field = codes "FIELD"
line_name Kind.Whole = codes "FIELD"
line_name Kind.Reset = codes "RESET"
line_name Kind.Clear = codes "CLEAR"
line_name Kind.Glyph = codes "GLYPH"
line_name Kind.Mask = codes "MASK"

-- what follows a name and a space before the fields, with a space behind it: the word that tells two kinds apart
abbrev pub with_word : Kind → List ℕ → List ℕ
with_word Kind.Position rest = codes "APS " ++ rest
with_word Kind.Whole rest = codes "whole " ++ rest
with_word _ rest = rest

-- a line of the kind, by what follows its beginning and a space
abbrev pub line_from : Kind → List ℕ → List ℕ
line_from kind rest = line_name kind ++ 32 ∷ with_word kind rest

-- no word that tells kinds apart comes first
abbrev pub IsChosen : Kind → List ℕ → Type 0
IsChosen Kind.Move rest = (more : List ℕ) → rest ≢ codes "APS " ++ more
IsChosen Kind.Field rest = (more : List ℕ) → rest ≢ codes "whole " ++ more
IsChosen _ rest = Unit {0}

-- a line with this name, a space and this rest is of the kind, and this follows its beginning and a space
pub record IsKindOf (name rest : List ℕ) (kind : Kind) (others : List ℕ) : Type 0 where
  pub named_so : name ≡ line_name kind
  pub follows : rest ≡ with_word kind others
  pub chosen : IsChosen kind others

-- the kind of an arc's or polygon's line
abbrev pub HasPoints : Kind → Type 0
HasPoints Kind.ArcOutlined = Unit {0}
HasPoints Kind.ArcFilled = Unit {0}
HasPoints Kind.PolyOutlined = Unit {0}
HasPoints Kind.PolyFilled = Unit {0}
HasPoints _ = ⊥

-- the least number of points of a shape
abbrev pub least_points : Kind → ℕ
least_points Kind.ArcOutlined = 3
least_points Kind.ArcFilled = 3
least_points Kind.PolyOutlined = 2
least_points Kind.PolyFilled = 2
least_points _ = 0

-- The sorts of the fields of a line, after its points.
abbrev pub kind_row : Kind → List Sort
kind_row Kind.Point = Sort.Point ∷ Sort.Pel ∷ Sort.Colour ∷ []
kind_row Kind.Line = Sort.Point ∷ Sort.Point ∷ Sort.Pel ∷ Sort.Colour ∷ Sort.Texture ∷ []
kind_row Kind.ArcOutlined = Sort.Pel ∷ Sort.Colour ∷ Sort.Texture ∷ []
kind_row Kind.ArcFilled = Sort.Pel ∷ Sort.Colour ∷ Sort.Texture ∷ []
kind_row Kind.RectOutlined = Sort.Point ∷ Sort.Point ∷ Sort.Pel ∷ Sort.Colour ∷ Sort.Texture ∷ []
kind_row Kind.RectFilled = Sort.Point ∷ Sort.Point ∷ Sort.Pel ∷ Sort.Colour ∷ Sort.Texture ∷ []
kind_row Kind.PolyOutlined = Sort.Pel ∷ Sort.Colour ∷ Sort.Texture ∷ []
kind_row Kind.PolyFilled = Sort.Pel ∷ Sort.Colour ∷ Sort.Texture ∷ []
kind_row Kind.Char = Sort.Set ∷ Sort.Code ∷ Sort.Pen ∷ Sort.Colour ∷ Sort.Look ∷ []
kind_row Kind.Move = Sort.Step ∷ Sort.Pen ∷ Sort.Colour ∷ Sort.Look ∷ []
kind_row Kind.Position = Sort.Code ∷ Sort.Code ∷ Sort.Pen ∷ Sort.Colour ∷ Sort.Look ∷ []
kind_row Kind.ToEol = Sort.Pen ∷ Sort.Colour ∷ Sort.Look ∷ []
kind_row Kind.Map = Sort.Addr ∷ Sort.Parts ∷ []
kind_row Kind.Blink = Sort.Addr ∷ Sort.Times ∷ Sort.Colour ∷ []
kind_row Kind.BlinkEnd = Sort.Colour ∷ []
kind_row Kind.BlinkStart = Sort.Colour ∷ []
kind_row Kind.BlinkStop = Sort.Colour ∷ []
kind_row Kind.Wait = Sort.Word ∷ []
kind_row Kind.Cursor = Sort.Cursor ∷ []
kind_row Kind.Field = Sort.Point ∷ Sort.Point ∷ Sort.Pen ∷ []
kind_row Kind.Whole = Sort.Pen ∷ []
kind_row Kind.Reset = Sort.Word ∷ Sort.Word ∷ Sort.Pen ∷ []
kind_row Kind.Clear = Sort.Pen ∷ []
kind_row Kind.Glyph = Sort.Code ∷ []
kind_row Kind.Mask = Sort.Mask ∷ []

-- a kind that its name alone tells, or whose word doesn't come first
abbrev pub IsPlainKind : Kind → Type 0
IsPlainKind Kind.Position = ⊥
IsPlainKind Kind.Whole = ⊥
IsPlainKind _ = Unit {0}

-- a kind whose name has more than ten bytes
abbrev pub HasLongName : Kind → Type 0
HasLongName Kind.ArcOutlined = Unit {0}
HasLongName Kind.RectOutlined = Unit {0}
HasLongName Kind.RectFilled = Unit {0}
HasLongName Kind.PolyOutlined = Unit {0}
HasLongName Kind.PolyFilled = Unit {0}
HasLongName Kind.BlinkStart = Unit {0}
HasLongName _ = ⊥
