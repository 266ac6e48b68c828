use Rattle.std.specs.Prelude.{Bool, Err, IsErrOf, List, None, Ok, Option, Result, Some, [], false, min, option_map, true, vec_capacity, vec_len, ℕ, ◌++◌, ◌+◌, ◌<◌, ◌∷◌, ◌≡◌, ◌≤◌, ◌⊎◌}
use Rattle.nap_draw.specs.Names.{Coordinates, Definition, Displacement, Drawing, Entry, EqualCurrent, Ghosts, Ink, MayCome, Pen, ShapeKind, SinkFault, State, Vec, WellMade, attributes, corner, ink_of, outline, point_entry, shape_on, sink_model_of, walk, with_pen}
use Rattle.nap_list.specs.Putting as puts
use Rattle.nap_draw.specs.{declared.fault.DrawFault.DrawFault, declared.figures.Span.Span, declared.figures.Figure.Figure, declared.figures.ShapeStart.ShapeStart, declared.points.Trail.Trail, declared.work.Work.Work, Geometry.polyline_spans, Geometry.arc_points, Geometry.poly_points, Acts.WantsBy, Acts.WantsFor, Acts.GivesSome}
use Rattle.nap_draw.specs.Rule.{RuleResult, entries_result, entry_result, rule_result, shape_from_pen, shape_from_point, span_line_entry}
use Rattle.nap_draw.specs.Draws.{Cause, stream, memory, device, DrawsBy, draw_cause}

-- The steps in which a code is executed: its run is decoded into the scratch list, its entries are put, and the work is
-- changed.

-- all points were decoded, and the list is those of the scratch list
abbrev pub Fills : {A : Type 0} → Option (List A) → List A → Result (Unit {0}) DrawFault → Type 0
Fills all list (Ok _) = all ≡ Some list
Fills all list (Err DrawFault.Outside) = all ≡ None
Fills {A} all list (Err DrawFault.Memory) = (xs : List A) × (all ≡ Some xs)
Fills all list (Err _) = ⊥

-- the progress of decoding a run: the points so far come before the rest, and are in the scratch list unless memory ran
-- out
pub record Filling {A : Type 0} (all rest : Option (List A)) (full : Bool) (Keeps : List A → Type 0) : Type 0 where
  pub prefix : List A
  pub parts : all ≡ option_map (λ xs. prefix ++ xs) rest
  pub kept : full ≡ false → Keeps prefix

-- A scratch list gave no memory back, and lacked it only if it had none for a point of each of n bytes.
abbrev pub LacksPlaces : {X Z A : Type 0} → ℕ → Vec X Z → Vec X Z → Result A DrawFault → Type 0
LacksPlaces n old new r = (vec_capacity old ≤ vec_capacity new) × (IsErrOf r DrawFault.Memory → vec_capacity old < n)

-- The progress of decoding a run of `all` bytes, of which these are left, into the scratch list: it gave no memory back,
-- has no more points than bytes were read, and memory ran out only if it had none for a point of each byte.
pub record Holding {X Z : Type 0} (old now : Vec X Z) (all left : ℕ) (full : Bool) : Type 0 where
  pub space : vec_capacity old ≤ vec_capacity now
  pub few : vec_len now + left ≤ all
  pub lacks : full ≡ true → vec_capacity old < all

-- the entry of a figure on a span, with these attributes
abbrev pub figure_with_ink : Figure → Ink → Span → Entry
figure_with_ink Figure.Line ink s = Entry.Line s.from s.to ink
figure_with_ink (Figure.Rect filled) ink s = Entry.Rect filled s.from s.to ink

-- the position of the pen after a figure on a span
abbrev pub figure_end : Figure → Span → Coordinates
figure_end Figure.Line s = s.to
figure_end (Figure.Rect filled) s = corner s.from s.to

abbrev pub figure_entry : Figure → Drawing → Span → Entry
figure_entry figure d s = figure_with_ink figure (ink_of d) s

-- the points of an arc or polygon from this point by displacements
abbrev pub displaced_points : ShapeKind → Coordinates → List Displacement → Option (List Coordinates)
displaced_points ShapeKind.Arc p ms = arc_points p ms
displaced_points ShapeKind.Poly p ms = poly_points p ms

-- the result of a shape, by the kind of its start
abbrev pub shape_from : ShapeStart → Work → List ℕ → (Drawing → List Coordinates → Entry) → (Coordinates → List Displacement → Option (List Coordinates)) → Result RuleResult DrawFault
shape_from ShapeStart.AtPen = shape_from_pen
shape_from ShapeStart.AtOperand = shape_from_point

-- how many of n bytes of a run belong to the operand that a shape starts at
abbrev pub start_size : ShapeStart → ℕ → ℕ → ℕ
start_size ShapeStart.AtPen k n = 0
start_size ShapeStart.AtOperand k n = min k n

-- the result of a shape through these points, or Outside
abbrev pub shape_result : Work → ShapeKind → Bool → Coordinates → Option (List Coordinates) → Result RuleResult DrawFault
shape_result work kind filled p qs = entry_result work (shape_on kind filled) (option_map (λ qs. outline kind (p ∷ qs)) qs)

-- the result of points, or of lines through them from this point, or Outside
abbrev pub trail_result : Trail → Work → Coordinates → Option (List Coordinates) → Result RuleResult DrawFault
trail_result Trail.Points work p qs = entries_result work point_entry qs
trail_result Trail.Lines work p qs = entries_result work span_line_entry (option_map (polyline_spans p) qs)

-- the last entry of points, or of lines, the last of them from one point to the other
abbrev pub trail_entry : Trail → Drawing → Coordinates → Coordinates → Entry
trail_entry Trail.Points d p q = point_entry d q
trail_entry Trail.Lines d p q = Entry.Line p q (ink_of d)

-- the state after an entry that moves the pen and isn't a character
abbrev pub with_pen_moved : State → Pen → State
with_pen_moved s pen = record s { drawing = with_pen pen s.drawing; last = None }

-- the state after entries that move the pen, the last of them to this point
abbrev pub with_pen_moved_to : State → Option Coordinates → State
with_pen_moved_to s None = s
with_pen_moved_to s (Some p) = with_pen_moved s (Pen.At p)

-- the entry that opens a definition
abbrev pub definition_start : Definition → Entry
definition_start (Definition.Glyph code) = Entry.GlyphStart code
definition_start (Definition.Mask mask) = Entry.MaskStart mask

-- pairs of points as spans
unfoldable pub pair_spans : List Coordinates → List Span
pair_spans [] = []
pair_spans (p ∷ []) = []
pair_spans (p ∷ q ∷ ps) = record { from = p; to = q } ∷ pair_spans ps

-- both ends of each span, in order
unfoldable pub span_ends : List Span → List Coordinates
span_ends [] = []
span_ends (s ∷ ss) = s.from ∷ s.to ∷ span_ends ss

-- the spans of rectangles: from this point to the first, and from each corner where a rectangle leaves the pen to the
-- next point
unfoldable pub rect_spans : Coordinates → List Coordinates → List Span
rect_spans p [] = []
rect_spans p (q ∷ qs) = record { from = p; to = q } ∷ rect_spans (corner p q) qs

-- the list was put: the sink took all of it, or a prefix up to an entry that it didn't take
abbrev pub PutsList : {S A : Type 0} → Ghosts S → List Entry → S → S → Result A SinkFault → Type 0
PutsList g list s t r = puts.PutSome (sink_model_of g) list s t r

-- the progress of putting a list
abbrev pub PutsSoFar : {S : Type 0} → Ghosts S → S → S → List Entry → List Entry → Type 0
PutsSoFar g s t whole rest = puts.Putting (sink_model_of g) s t whole rest

-- a code acted by the result of its rule, and all macros were cleared exactly if the answer says so; it lacked memory only
-- for points or for entries
abbrev pub ActsByRule : {S A : Type 0} → (g : Ghosts S) → (A → Bool) → Type 0 → Result RuleResult DrawFault → Work → Work → S → S → Result A DrawFault → Type 0
ActsByRule g clears short by w v s t (Ok x) = (entries : List Entry) × (by ≡ Ok (record { entries = entries; work = v; clears = clears x })) × g.took s entries t
    × (g.state t ≡ walk (g.state s) entries) × (g.failed s ≡ false → g.failed t ≡ false)
ActsByRule g clears short by w v s t (Err fault) = (v ≡ w) × DrawsBy g.took g.broke g.failed by s t fault (draw_cause fault) × (fault ≡ DrawFault.Sink → g.failed t ≡ true)
    × (g.failed s ≡ false → g.failed t ≡ true → fault ≡ DrawFault.Sink) × (fault ≡ DrawFault.Memory → short ⊎ WantsFor g s)

-- the answer says nothing about macros, which stay
abbrev pub clears_nothing : Unit {0} → Bool
clears_nothing _ = false

-- a character or control acted by the result of its rule, and lacked memory or a device only for its entries
pub record AppliesControl {S : Type 0} (g : Ghosts S) (by : Result RuleResult DrawFault) (w v : Work) (s t : S) (r : Result (Unit {0}) DrawFault) : Type 0 where
  pub does : ActsByRule g clears_nothing ⊥ by w v s t r
  pub wants : IsErrOf r DrawFault.Memory → WantsBy g by s t
  pub gives : IsErrOf r DrawFault.Sink → GivesSome by

-- the rule refuses the code with this fault, if the cause is the stream
abbrev pub RuleRefuses : Result RuleResult DrawFault → DrawFault → Cause → Type 0
RuleRefuses by fault stream = by ≡ Err fault
RuleRefuses by fault memory = ⊥
RuleRefuses by fault device = ⊥

-- an opcode without entries changed the work by the result of its rule
abbrev pub SetsWork : Result RuleResult DrawFault → Work → Work → Result (Unit {0}) DrawFault → Type 0
SetsWork by w v (Ok _) = by ≡ Ok (rule_result v [])
SetsWork by w v (Err fault) = (v ≡ w) × RuleRefuses by fault (draw_cause fault)

-- an entry with the current attributes of this state, which fits every state that agrees with it
pub record MayFollow (s : State) (e : Entry) : Type 0 where
  pub holds : EqualCurrent (attributes e) s.drawing
  pub made : WellMade e
  pub comes : MayCome s e
