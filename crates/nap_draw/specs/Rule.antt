use Rattle.std.specs.Prelude.{Bool, Err, List, None, Ok, Option, Result, Some, [], drop, false, if◌then◌else◌, length, map, nat_lt, ok_or, option_and_then, option_map, slice_get, slice_index, take, true, unwrap_or, ℕ, ⊤, ◌%◌, ◌+◌, ◌/◌, ◌==◌, ◌∷◌}
use Rattle.nap_draw.specs.Names.{Area, Base, CharSize, Colour, Components, Coordinates, Displacement, Drawing, Entry, Opcode, OperandLengths, Pen, State, colour_of, ink_of, is_known, option_or, point_at, point_entry, single_of, start, steps_limit, walk, with_colour, with_known_colour, with_pen_at}
use Rattle.nap_draw.specs.{declared.work.Work.Work, declared.fault.DrawFault.DrawFault, declared.figures.Span.Span, Operands.operands, Operands.moves, Operands.addresses}
use Rattle.nap_draw.specs.Geometry.{last_or, points_at, points_reached, polyline_spans, span_by, absolute_spans, relative_spans, rect_chain_spans, arc_points, poly_points}

-- the operand lengths at the start: three words and one
abbrev pub start_domain : OperandLengths
start_domain = record { multi = 3; single = 1 }

-- the work at the start of a stream (PROFILE.md, The drawing state)
abbrev pub start_work : Work
start_work = record { domain = start_domain; state = start; saved = start_domain }

-- the result of a rule: the entries, the work after them, and whether all macros are cleared
pub record RuleResult : Type 0 where
  pub entries : List Entry
  pub work : Work
  pub clears : Bool

-- the result of a value, or its fault
abbrev pub and_then : {A B : Type 0} → Result A DrawFault → (A → Result B DrawFault) → Result B DrawFault
and_then (Ok x) next = next x
and_then (Err fault) next = Err fault

-- the result with these entries, and the work that they leave
abbrev pub rule_result : Work → List Entry → RuleResult
rule_result work list = record { entries = list; work = record work { state = walk work.state list }; clears = false }

-- the work with these attributes
abbrev pub with_drawing : Work → Drawing → Work
with_drawing work d = record work { state = record work.state { drawing = d } }

-- the multi-value operands of a run
abbrev pub moves_of : Work → List ℕ → List Displacement
moves_of work run = moves work.domain.multi run

-- the list, or Missing if it is empty
abbrev pub at_least_one : {A : Type 0} → List A → Result (List A) DrawFault
at_least_one [] = Err DrawFault.Missing
at_least_one (x ∷ xs) = Ok (x ∷ xs)

-- the point of the pen, or PenUnknown
abbrev pub pen_point : Pen → Result Coordinates DrawFault
pen_point (Pen.At p) = Ok p
pen_point Pen.Start = Ok (record { x = 0; y = 0 })
pen_point Pen.After = Err DrawFault.PenUnknown

-- the entries with the current attributes

abbrev pub span_line_entry : Drawing → Span → Entry
span_line_entry d s = Entry.Line s.from s.to (ink_of d)

abbrev pub rect_on : Bool → Drawing → Span → Entry
rect_on filled d s = Entry.Rect filled s.from s.to (ink_of d)

abbrev pub arc_on : Bool → Drawing → List Coordinates → Entry
arc_on filled d points = Entry.Arc filled points (ink_of d)

abbrev pub poly_on : Bool → Drawing → List Coordinates → Entry
poly_on filled d points = Entry.Poly filled points (ink_of d)

abbrev pub field_on : Drawing → Area → Entry
field_on d area = Entry.Field area d.pen

-- the result with an entry for each of these, or Outside
abbrev pub entries_result : {A : Type 0} → Work → (Drawing → A → Entry) → Option (List A) → Result RuleResult DrawFault
entries_result work entry None = Err DrawFault.Outside
entries_result work entry (Some shapes) = Ok (rule_result work (map (entry work.state.drawing) shapes))

-- the result with one entry, or Outside
abbrev pub entry_result : {A : Type 0} → Work → (Drawing → A → Entry) → Option A → Result RuleResult DrawFault
entry_result work entry None = Err DrawFault.Outside
entry_result work entry (Some shape) = Ok (rule_result work (entry work.state.drawing shape ∷ []))

-- the result of moving the pen to the last of these points, or Outside
abbrev pub pen_result : Work → Option (List Coordinates) → Result RuleResult DrawFault
pen_result work None = Err DrawFault.Outside
pen_result work (Some points) = Ok (rule_result (with_drawing work (with_pen_at (last_or None points) work.state.drawing)) [])

-- the operand lengths that the word of DOMAIN sets
abbrev pub domain_in : ℕ → OperandLengths
domain_in word = record { multi = word / 4 % 8 + 1; single = word % 4 + 1 }

-- the work with the operand lengths of DOMAIN, and with the pel that follows if there is one
abbrev pub with_domain : Work → OperandLengths → List ℕ → Work
with_domain work domain words = record (with_drawing work (record work.state.drawing { pel = unwrap_or (slice_get (moves domain.multi words) 0) work.state.drawing.pel })) { domain = domain }

-- DOMAIN: sets the operand lengths and the pel; ThreeD if b6 of its word is set
abbrev pub domain_rule : Work → List ℕ → Result RuleResult DrawFault
domain_rule work [] = Err DrawFault.Missing
domain_rule work (word ∷ words) =
    if word / 32 == 1 then Err DrawFault.ThreeD else
    Ok (rule_result (with_domain work (domain_in word) words) [])

-- the result for the operands of a run, or Missing if there are none
abbrev pub with_operands : Work → List ℕ → (List Displacement → Result RuleResult DrawFault) → Result RuleResult DrawFault
with_operands work run f = and_then (at_least_one (moves_of work run)) f

-- the result for the operands of a run and the point of the pen: Missing without operands, then PenUnknown
abbrev pub from_pen : Work → List ℕ → (Coordinates → List Displacement → Result RuleResult DrawFault) → Result RuleResult DrawFault
from_pen work run f = with_operands work run (λ ms. and_then (pen_point work.state.drawing.pen) (λ p. f p ms))

-- the list, or Missing if it is empty or its length is odd
abbrev pub complete_pairs : {A : Type 0} → List A → Result (List A) DrawFault
complete_pairs [] = Err DrawFault.Missing
complete_pairs (x ∷ xs) = if length xs % 2 == 1 then Ok (x ∷ xs) else Err DrawFault.Missing

-- the result for the pairs of operands of a run, or Missing
abbrev pub with_pairs : Work → List ℕ → (List Displacement → Result RuleResult DrawFault) → Result RuleResult DrawFault
with_pairs work run f = and_then (complete_pairs (moves_of work run)) f

-- the first operand and the others, or Missing if there are fewer than two
abbrev pub first_and_more : {A : Type 0} → List A → Result (A × List A) DrawFault
first_and_more [] = Err DrawFault.Missing
first_and_more (x ∷ []) = Err DrawFault.Missing
first_and_more (x ∷ y ∷ ys) = Ok (x, y ∷ ys)

-- the displacements, or ManyPoints if a shape may not have as many
abbrev pub at_most_limit : List Displacement → Result (List Displacement) DrawFault
at_most_limit ms = if nat_lt steps_limit (length ms) then Err DrawFault.ManyPoints else Ok ms

-- the result of a shape from the pen
abbrev pub shape_from_pen : Work → List ℕ → (Drawing → List Coordinates → Entry) → (Coordinates → List Displacement → Option (List Coordinates)) → Result RuleResult DrawFault
shape_from_pen work run entry points =
    with_operands work run (λ ms. and_then (at_most_limit ms) (λ ms. and_then (pen_point work.state.drawing.pen) (λ p. entry_result work entry (points p ms))))

-- the result of a shape from the point of the first operand
abbrev pub shape_from_point : Work → List ℕ → (Drawing → List Coordinates → Entry) → (Coordinates → List Displacement → Option (List Coordinates)) → Result RuleResult DrawFault
shape_from_point work run entry points =
    and_then (first_and_more (moves_of work run)) (λ (m, ms). and_then (at_most_limit ms) (λ ms. entry_result work entry (option_and_then (λ p. points p ms) (point_at m))))

-- the part of the unit screen from a point by a displacement, or Outside
abbrev pub area_part : Option Coordinates → Displacement → Result Area DrawFault
area_part p m = ok_or (option_map (λ s. Area.Part s.from s.to) (span_by p m)) DrawFault.Outside

-- the field: the whole unit screen, or a part from the pen, or a part from a point
abbrev pub area_of : Work → List Displacement → Result Area DrawFault
area_of work [] = Ok Area.Whole
area_of work (m ∷ []) = and_then (pen_point work.state.drawing.pen) (λ p. area_part (Some p) m)
area_of work (m ∷ n ∷ ms) = area_part (point_at m) n

-- FIELD: adds an entry with the field
abbrev pub field_rule : Work → List Displacement → Result RuleResult DrawFault
field_rule work ms = and_then (area_of work ms) (λ area. entry_result work field_on (Some area))

-- RESET: always adds an entry with both words; b1 of the first resets the operand lengths, b5 of the second clears all
-- macros
abbrev pub reset_rule : Work → ℕ → ℕ → Result RuleResult DrawFault
reset_rule work first second =
    let entry = Entry.Reset first second work.state.drawing.pen in
    Ok (record {
      entries = entry ∷ [];
      work = record work { domain = if first % 2 == 1 then start_domain else work.domain; state = walk work.state (entry ∷ []) };
      clears = second / 16 % 2 == 1;
    })

-- the first multi-value operand of a run, if there is one
abbrev pub first_move : Work → List ℕ → Option Displacement
first_move work run = slice_get (moves_of work run) 0

-- TEXT: sets the two words and the size; what is missing stays
abbrev pub text_rule : Work → List ℕ → Result RuleResult DrawFault
text_rule work run =
    let look = work.state.drawing.text in
    Ok (rule_result (with_drawing work (record work.state.drawing {
      text = record look {
        first = unwrap_or (slice_get run 0) look.first;
        second = unwrap_or (slice_get run 1) look.second;
        size = unwrap_or (option_map CharSize.Given (first_move work (drop 2 run))) look.size;
      };
    })) [])

-- TEXTURE: sets the word and the size of the mask; what is missing stays
abbrev pub texture_rule : Work → List ℕ → Result RuleResult DrawFault
texture_rule work run =
    let texture = work.state.drawing.texture in
    Ok (rule_result (with_drawing work (record work.state.drawing {
      texture = record {
        word = unwrap_or (slice_get run 0) texture.word;
        mask = option_or (first_move work (drop 1 run)) texture.mask;
      };
    })) [])

-- the colour of mode 0
abbrev pub colour_of_base : Base → Colour
colour_of_base (Base.Own origin) = Colour.Own origin
colour_of_base (Base.Direct grb) = Colour.Direct grb

-- SELECT COLOR: the colour of mode 0, or the foreground at an address, or foreground and background at two
abbrev pub selected_colour : Base → List ℕ → Colour
selected_colour base [] = colour_of_base base
selected_colour base (a ∷ []) = Colour.Front a
selected_colour base (a ∷ b ∷ more) = Colour.Pair a b

abbrev pub select_rule : Work → List ℕ → Result RuleResult DrawFault
select_rule work run = Ok (rule_result (with_drawing work (with_colour (selected_colour work.state.drawing.base (addresses work.domain.single run)) work.state.drawing)) [])

-- the state with a new colour at an address; the colour in use stays
abbrev pub with_map_colour : State → ℕ → Components → State
with_map_colour s a grb = record s { last = None; known = with_known_colour a grb s.known }

-- the result of setting the colour at an address: no entry if it is known to be there already
abbrev pub map_rule : Work → ℕ → Components → Result RuleResult DrawFault
map_rule work a grb =
    if is_known a grb work.state.known then Ok (rule_result work []) else
    Ok (record { entries = Entry.Map a grb ∷ []; work = record work { state = with_map_colour work.state a grb }; clears = false })

-- the result of SET COLOR, by the colour in use: a new colour of mode 0, or of the foreground's address, or NoAddress
abbrev pub set_color_under : Work → Colour → Components → Result RuleResult DrawFault
set_color_under work (Colour.Own origin) grb = Ok (rule_result (with_drawing work (record work.state.drawing { base = Base.Direct grb; colour = Colour.Direct grb })) [])
set_color_under work (Colour.Direct old) grb = Ok (rule_result (with_drawing work (record work.state.drawing { base = Base.Direct grb; colour = Colour.Direct grb })) [])
set_color_under work (Colour.Front a) grb = map_rule work a grb
set_color_under work (Colour.Pair a b) grb = map_rule work a grb
set_color_under work (Colour.ByReset preset) grb = Err DrawFault.NoAddress

-- SET COLOR: exactly one colour; Missing without one, ManyColours with more
abbrev pub set_color_rule : Work → List (List ℕ) → Result RuleResult DrawFault
set_color_rule work [] = Err DrawFault.Missing
set_color_rule work (operand ∷ []) = set_color_under work work.state.drawing.colour (colour_of operand)
set_color_rule work (operand ∷ other ∷ more) = Err DrawFault.ManyColours

-- the Blink of a group of operands: an address of k words, then the words on, off and delay; missing words are zero
abbrev pub blink : ℕ → Colour → List ℕ → Entry
blink k colour group =
    Entry.Blink (single_of (take k group)) (slice_index (drop k group) 0) (slice_index (drop k group) 1) (slice_index (drop k group) 2) colour

-- BLINK: a Blink for each group, or BlinkEnd without any
abbrev pub blinks : ℕ → Colour → List (List ℕ) → List Entry
blinks k colour [] = Entry.BlinkEnd colour ∷ []
blinks k colour (group ∷ groups) = map (blink k colour) (group ∷ groups)

abbrev pub blink_rule : Work → List ℕ → Result RuleResult DrawFault
blink_rule work run =
    let k = work.domain.single in
    Ok (rule_result work (blinks k work.state.drawing.colour (operands (k + 3) run)))

-- the opcode is in the profile: it isn't an incremental one
abbrev pub IsDrawn : Opcode → Type 0
IsDrawn Opcode.IncrementalPoint = ⊥
IsDrawn Opcode.IncrementalLine = ⊥
IsDrawn Opcode.IncrementalPolyFilled = ⊥
IsDrawn _ = ⊤

-- the rule of each opcode on its complete run (PROFILE.md, Opcodes); one that is left out gives nothing
abbrev pub rule : Work → Opcode → List ℕ → Result RuleResult DrawFault
rule work Opcode.Reset run = reset_rule work (slice_index run 0) (slice_index run 1)
rule work Opcode.Domain run = domain_rule work run
rule work Opcode.Text run = text_rule work run
rule work Opcode.Texture run = texture_rule work run
rule work Opcode.PointSetAbs run = with_operands work run (λ ms. pen_result work (points_at ms))
rule work Opcode.PointSetRel run = from_pen work run (λ p ms. pen_result work (points_reached p ms))
rule work Opcode.PointAbs run = with_operands work run (λ ms. entries_result work point_entry (points_at ms))
rule work Opcode.PointRel run = from_pen work run (λ p ms. entries_result work point_entry (points_reached p ms))
rule work Opcode.LineAbs run = from_pen work run (λ p ms. entries_result work span_line_entry (option_map (polyline_spans p) (points_at ms)))
rule work Opcode.LineRel run = from_pen work run (λ p ms. entries_result work span_line_entry (option_map (polyline_spans p) (points_reached p ms)))
rule work Opcode.SetLineAbs run = with_pairs work run (λ ms. entries_result work span_line_entry (absolute_spans ms))
rule work Opcode.SetLineRel run = with_pairs work run (λ ms. entries_result work span_line_entry (relative_spans ms))
rule work Opcode.ArcOutlined run = shape_from_pen work run (arc_on false) arc_points
rule work Opcode.ArcFilled run = shape_from_pen work run (arc_on true) arc_points
rule work Opcode.SetArcOutlined run = shape_from_point work run (arc_on false) arc_points
rule work Opcode.SetArcFilled run = shape_from_point work run (arc_on true) arc_points
rule work Opcode.RectOutlined run = from_pen work run (λ p ms. entries_result work (rect_on false) (rect_chain_spans p ms))
rule work Opcode.RectFilled run = from_pen work run (λ p ms. entries_result work (rect_on true) (rect_chain_spans p ms))
rule work Opcode.SetRectOutlined run = with_pairs work run (λ ms. entries_result work (rect_on false) (relative_spans ms))
rule work Opcode.SetRectFilled run = with_pairs work run (λ ms. entries_result work (rect_on true) (relative_spans ms))
rule work Opcode.PolyOutlined run = shape_from_pen work run (poly_on false) poly_points
rule work Opcode.PolyFilled run = shape_from_pen work run (poly_on true) poly_points
rule work Opcode.SetPolyOutlined run = shape_from_point work run (poly_on false) poly_points
rule work Opcode.SetPolyFilled run = shape_from_point work run (poly_on true) poly_points
rule work Opcode.Field run = field_rule work (moves_of work run)
rule work Opcode.SetColor run = set_color_rule work (operands work.domain.multi run)
rule work Opcode.Wait run = Ok (rule_result work (map Entry.Wait run))
rule work Opcode.SelectColor run = select_rule work run
rule work Opcode.Blink run = blink_rule work run
rule work _ run = Ok (rule_result work [])
