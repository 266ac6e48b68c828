use Rattle.nap_command.proofs.{Bool, Colour, DrawFault, Entry, Err, IfOk, List, None, Ok, Opcode, Option, Pen, Result, RuleResult, Some, State, TextEnd, Two, Work, [], after, arith, attributes, colour_prelude, command_piece, cut_operands, displacement_bytes, entry_pieces, false, if◌then◌else◌, length, length-append, length-map, map, nat_lt, operands, option_and_then, option_map, pel_prelude, pen_prelude, pieces, pieces_bytes, prelude, refl, rule, rule_result, spelling_pieces, suc, texture_prelude, true, with_attributes, zero, ℕ, ◌%◌, ◌&&◌, ◌*◌, ◌++◌, ◌+◌, ◌-◌, ◌/◌, ◌<◌, ◌==◌, ◌∷◌, ◌≡◌, ◌≤◌}
use Rattle.nap_canon.specs.Commands.{Command}
use Rattle.nap_canon.proofs.PublicLaws.{addr_size, displacements_size, grb_size, move_size, point_size}
use Rattle.nap_canon.specs.Names.{Area, Attributes, Base, CharSet, CharSize, Components, Coordinates, Displacement, Drawing, GSet, TextLook, TextStep, Texture, circle_closed, colour_of, moves, multi_of, point_at, point_entry, steps_limit}
use Rattle.nap_canon.specs.Preludes.{base_commands, colour_commands, flag_commands, given_size_commands, mask_commands, named_size_commands, text_prelude, unless, words_commands}
use Rattle.nap_canon.specs.Spelling.{Piece, char_piece, control, domain_again, group, line_piece, opcode, primary, shape_bytes, step_bytes, word_byte}
use Rattle.nap_canon.specs.Text.{gl_of, piece_bytes, shift_to_opcodes, shift_to_primary, text_end_after_piece}
use Rattle.nap_draw.specs.Geometry.{absolute_spans, arc_points, cons_if_all, points_at, points_reached, poly_points, polyline_spans, rect_chain_spans, relative_spans, span, span_by}
use Rattle.nap_draw.specs.Names.{corner, displaced_point}
use Rattle.nap_draw.specs.Rule.{and_then, arc_on, area_of, at_least_one, at_most_limit, blink, blinks, complete_pairs, domain_in, domain_rule, entries_result, entry_result, first_and_more, from_pen, map_rule, moves_of, pen_point, pen_result, poly_on, rect_on, set_color_rule, set_color_under, shape_from_pen, shape_from_point, span_line_entry, with_domain, with_operands, with_pairs}
use Rattle.nap_values.specs.Spellings.{addr_bytes, grb_bytes, point_bytes}
use Rattle.nap_canon.specs.Equality.{same_base, same_colour, same_flag, same_move, same_pen, same_size, same_texture}

-- How much an opcode adds.

-- the number of points of arcs and polygons

abbrev pub points_of : Entry → ℕ
points_of (Entry.Arc filled points ink) = length points
points_of (Entry.Poly filled points ink) = length points
points_of _ = 0

abbrev pub points_in : List Entry → ℕ
points_in [] = 0
points_in (e ∷ es) = points_of e + points_in es

-- entries weigh 90 each, and 8 for each of these points
abbrev pub weight : List Entry → ℕ
weight es = 90 * length es + 8 * points_in es

-- the entries of a result weigh at most w
abbrev pub Adds : ℕ → Result RuleResult DrawFault → Type 0
Adds w (Ok drawn) = weight drawn.entries ≤ w
Adds w (Err fault) = Unit {0}

each_weighs : {A : Type 0} (f : A → Entry) (xs : List A) → ((x : A) → points_of (f x) ≡ 0) → weight (map f xs) ≡ 90 * length xs
each_weighs f [] plain = refl
each_weighs f (x ∷ xs) plain = omega (arith, plain x, each_weighs f xs plain)

-- a list, if there is one, has at most n items
abbrev HasAtMost : {A : Type 0} → ℕ → Option (List A) → Type 0
HasAtMost n None = Unit {0}
HasAtMost n (Some xs) = length xs ≤ n

-- operands

cut_few : (k lacking : ℕ) (operand words : List ℕ) → length (cut_operands k lacking operand words) ≤ suc (length words)
unfolding cut_operands
cut_few k lacking operand [] = omega arith
cut_few k zero operand (word ∷ words) = omega (arith, cut_few k (k - 1) (word ∷ []) words)
cut_few k (suc lacking) operand (word ∷ words) = omega (arith, cut_few k lacking (operand ++ word ∷ []) words)

operands_few : (k : ℕ) (run : List ℕ) → length (operands k run) ≤ length run
unfolding operands
operands_few k [] = omega arith
operands_few k (word ∷ words) = cut_few k (k - 1) (word ∷ []) words

moves_few : (k : ℕ) (run : List ℕ) → length (moves k run) ≤ length run
moves_few k run = omega (arith, length-map (operands k run) multi_of, operands_few k run)

-- points and spans

map_few : {A B : Type 0} (m n : ℕ) (f : List A → List B) (o : Option (List A)) → ((xs : List A) → length xs ≤ m → length (f xs) ≤ n) → HasAtMost m o → HasAtMost n (option_map f o)
map_few m n f None few h = tt
map_few m n f (Some xs) few h = few xs h

cons_few : {A : Type 0} (m n : ℕ) (x : Option A) (next : A → Option (List A)) → m < n → ((a : A) → HasAtMost m (next a)) → HasAtMost n (cons_if_all x next)
cons_few m n None next less few = tt
cons_few m n (Some x) next less few = map_few m n (λ xs. x ∷ xs) (next x) (λ xs h. omega (arith, h, less)) (few x)

points_few : (ms : List Displacement) → HasAtMost (length ms) (points_at ms)
unfolding points_at
points_few [] = omega arith
points_few (m ∷ ms) = cons_few (length ms) _ (point_at m) _ (omega arith) (λ _. points_few ms)

reached_few : (p : Coordinates) (ms : List Displacement) → HasAtMost (length ms) (points_reached p ms)
unfolding points_reached
reached_few p [] = omega arith
reached_few p (m ∷ ms) = cons_few (length ms) _ (displaced_point p m) _ (omega arith) (λ q. reached_few q ms)

polyline_few : (p : Coordinates) (qs : List Coordinates) → length (polyline_spans p qs) ≤ length qs
unfolding polyline_spans
polyline_few p [] = omega arith
polyline_few p (q ∷ qs) = omega (arith, polyline_few q qs)

absolute_few : (ms : List Displacement) → HasAtMost (length ms) (absolute_spans ms)
unfolding absolute_spans
absolute_few [] = omega arith
absolute_few (m ∷ []) = tt
absolute_few (m ∷ n ∷ ms) = cons_few (length ms) _ (span (point_at m) (point_at n)) _ (omega arith) (λ _. absolute_few ms)

relative_few : (ms : List Displacement) → HasAtMost (length ms) (relative_spans ms)
unfolding relative_spans
relative_few [] = omega arith
relative_few (m ∷ []) = tt
relative_few (m ∷ n ∷ ms) = cons_few (length ms) _ (span_by (point_at m) n) _ (omega arith) (λ _. relative_few ms)

chain_few : (p : Coordinates) (ms : List Displacement) → HasAtMost (length ms) (rect_chain_spans p ms)
unfolding rect_chain_spans
chain_few p [] = omega arith
chain_few p (m ∷ ms) = cons_few (length ms) _ (span_by (Some p) m) _ (omega arith) (λ s. chain_few (corner s.from s.to) ms)

closed_few : (p : Coordinates) (n : ℕ) (qs : List Coordinates) → length qs ≤ n → length (circle_closed (p ∷ qs)) ≤ n + 2
closed_few p n (q ∷ []) h = omega (arith, h)
closed_few p n _ h = omega (arith, h)

arc_few : (p : Coordinates) (ms : List Displacement) → HasAtMost (length ms + 2) (arc_points p ms)
arc_few p ms = map_few (length ms) _ _ (points_reached p ms) (closed_few p (length ms)) (reached_few p ms)

poly_few : (p : Coordinates) (ms : List Displacement) → HasAtMost (length ms + 2) (poly_points p ms)
poly_few p ms = map_few (length ms) _ _ (points_reached p ms) (λ qs h. omega (arith, h)) (reached_few p ms)

lines_few : (p : Coordinates) (ms : List Displacement) (o : Option (List Coordinates)) → HasAtMost (length ms) o → HasAtMost (length ms) (option_map (polyline_spans p) o)
lines_few p ms o h = map_few (length ms) _ _ o (λ qs k. omega (arith, polyline_few p qs, k)) h

-- what is added after a value, if there is one with P
then_adds : {A : Type 0} (w : ℕ) (P : A → Type 0) (r : Result A DrawFault) (f : A → Result RuleResult DrawFault) → IfOk r P → ((a : A) → P a → Adds w (f a)) → Adds w (and_then r f)
then_adds w P (Ok a) f h few = few a h
then_adds w P (Err fault) f h few = tt

after_any : {A : Type 0} (w : ℕ) (r : Result A DrawFault) (f : A → Result RuleResult DrawFault) → ((a : A) → Adds w (f a)) → Adds w (and_then r f)
after_any w (Ok a) f few = few a
after_any w (Err fault) f few = tt

module _ (work : Work) (run : List ℕ) where
  abbrev most : ℕ
  most = 98 * length run + 106

  abbrev Short : List Displacement → Type 0
  Short ms = length ms ≤ length run

  some_short : (ms : List Displacement) → Short ms → IfOk (at_least_one ms) Short
  some_short [] h = tt
  some_short (m ∷ ms) h = h

  pairs_short : (ms : List Displacement) → Short ms → IfOk (complete_pairs ms) Short
  pairs_short [] h = tt
  pairs_short (m ∷ ms) h = elim (length ms % 2 == 1) as (λ b. IfOk (if b then Ok (m ∷ ms) else Err DrawFault.Missing) Short) [ true ↦ h | false ↦ tt ]

  more_short : (ms : List Displacement) → Short ms → IfOk (first_and_more ms) (λ x. Short x.1)
  more_short [] h = tt
  more_short (m ∷ []) h = tt
  more_short (m ∷ n ∷ ms) h = omega (arith, h)

  limited_short : (ms : List Displacement) → Short ms → IfOk (at_most_limit ms) Short
  limited_short ms h = elim (nat_lt steps_limit (length ms)) as (λ b. IfOk (if b then Err DrawFault.ManyPoints else Ok ms) Short) [ true ↦ tt | false ↦ h ]

  operands_add : (f : List Displacement → Result RuleResult DrawFault) → ((ms : List Displacement) → Short ms → Adds most (f ms)) → Adds most (with_operands work run f)
  operands_add f few = then_adds most Short (at_least_one (moves_of work run)) f (some_short _ (moves_few work.domain.multi run)) few

  pairs_add : (f : List Displacement → Result RuleResult DrawFault) → ((ms : List Displacement) → Short ms → Adds most (f ms)) → Adds most (with_pairs work run f)
  pairs_add f few = then_adds most Short (complete_pairs (moves_of work run)) f (pairs_short _ (moves_few work.domain.multi run)) few

  pen_adds : (f : Coordinates → List Displacement → Result RuleResult DrawFault) → ((p : Coordinates) (ms : List Displacement) → Short ms → Adds most (f p ms)) → Adds most (from_pen work run f)
  pen_adds f few = operands_add _ (λ ms h. after_any most (pen_point work.state.drawing.pen) (λ p. f p ms) (λ p. few p ms h))

  -- the pen moves, or there is an entry for each of some values, or for all points
  none_added : (o : Option (List Coordinates)) → Adds most (pen_result work o)
  none_added None = tt
  none_added (Some points) = omega arith

  each_adds : {A : Type 0} (entry : Drawing → A → Entry) (n : ℕ) (o : Option (List A)) → ((a : A) → points_of (entry work.state.drawing a) ≡ 0) → n ≤ length run → HasAtMost n o → Adds most (entries_result work entry o)
  each_adds entry n None plain k h = tt
  each_adds entry n (Some xs) plain k h = omega (arith, k, h, each_weighs (entry work.state.drawing) xs plain)

  shape_adds : (entry : Drawing → List Coordinates → Entry) (n : ℕ) (o : Option (List Coordinates)) → ((ps : List Coordinates) → points_of (entry work.state.drawing ps) ≡ length ps) → n ≤ length run → HasAtMost (n + 2) o → Adds most (entry_result work entry o)
  shape_adds entry n None drawn k h = tt
  shape_adds entry n (Some ps) drawn k h = omega (arith, drawn ps, k, h)

  module _ (entry : Drawing → List Coordinates → Entry) (points : Coordinates → List Displacement → Option (List Coordinates)) (drawn : (ps : List Coordinates) → points_of (entry work.state.drawing ps) ≡ length ps)
      (reached : (p : Coordinates) (ms : List Displacement) → HasAtMost (length ms + 2) (points p ms)) where
    from_pen_adds : Adds most (shape_from_pen work run entry points)
    from_pen_adds =
        operands_add _ (λ ms h. then_adds most Short (at_most_limit ms) _ (limited_short ms h) (λ ms h.
        after_any most (pen_point work.state.drawing.pen) _ (λ p. shape_adds entry (length ms) (points p ms) drawn h (reached p ms))))

    at : (ms : List Displacement) (o : Option Coordinates) → HasAtMost (length ms + 2) (option_and_then (λ p. points p ms) o)
    at ms None = tt
    at ms (Some p) = reached p ms

    from_point_adds : Adds most (shape_from_point work run entry points)
    from_point_adds =
        then_adds most (λ x. Short x.1) (first_and_more (moves_of work run)) _ (more_short _ (moves_few work.domain.multi run)) (λ x h.
        then_adds most Short (at_most_limit x.1) _ (limited_short x.1 h) (λ ms h. shape_adds entry (length ms) _ drawn h (at ms (point_at x.0))))

  domain_adds : (words : List ℕ) → Adds most (domain_rule work words)
  domain_adds [] = tt
  domain_adds (word ∷ words) =
      elim (word / 32 == 1) as (λ b. Adds most (if b then Err DrawFault.ThreeD else Ok (rule_result (with_domain work (domain_in word) words) []))) [ true ↦ tt | false ↦ omega arith ]

  map_adds : (a : ℕ) (grb : Components) → Adds most (map_rule work a grb)
  map_adds a grb = grind arith

  colour_adds : (colour : Colour) (grb : Components) → Adds most (set_color_under work colour grb)
  colour_adds (Colour.Front a) grb = map_adds a grb
  colour_adds (Colour.Pair a b) grb = map_adds a grb
  colour_adds (Colour.ByReset preset) grb = tt
  colour_adds _ grb = omega arith

  set_color_adds : (groups : List (List ℕ)) → Adds most (set_color_rule work groups)
  set_color_adds (one ∷ []) = colour_adds work.state.drawing.colour (colour_of one)
  set_color_adds _ = tt

  blinks_add : (k : ℕ) (groups : List (List ℕ)) → length groups ≤ length run → weight (blinks k work.state.drawing.colour groups) ≤ most
  blinks_add k [] h = omega arith
  blinks_add k (one ∷ groups) h = omega (arith, h, each_weighs (blink k work.state.drawing.colour) (one ∷ groups) (λ _. refl))

  pub rule_adds : (op : Opcode) → Adds most (rule work op run)
  rule_adds Opcode.Domain = domain_adds run
  rule_adds Opcode.PointSetAbs = operands_add _ (λ ms h. none_added (points_at ms))
  rule_adds Opcode.PointSetRel = pen_adds _ (λ p ms h. none_added (points_reached p ms))
  rule_adds Opcode.PointAbs = operands_add _ (λ ms h. each_adds point_entry _ _ (λ _. refl) h (points_few ms))
  rule_adds Opcode.PointRel = pen_adds _ (λ p ms h. each_adds point_entry _ _ (λ _. refl) h (reached_few p ms))
  rule_adds Opcode.LineAbs = pen_adds _ (λ p ms h. each_adds span_line_entry _ _ (λ _. refl) h (lines_few p ms _ (points_few ms)))
  rule_adds Opcode.LineRel = pen_adds _ (λ p ms h. each_adds span_line_entry _ _ (λ _. refl) h (lines_few p ms _ (reached_few p ms)))
  rule_adds Opcode.SetLineAbs = pairs_add _ (λ ms h. each_adds span_line_entry _ _ (λ _. refl) h (absolute_few ms))
  rule_adds Opcode.SetLineRel = pairs_add _ (λ ms h. each_adds span_line_entry _ _ (λ _. refl) h (relative_few ms))
  rule_adds Opcode.ArcOutlined = from_pen_adds (arc_on false) _ (λ _. refl) arc_few
  rule_adds Opcode.ArcFilled = from_pen_adds (arc_on true) _ (λ _. refl) arc_few
  rule_adds Opcode.SetArcOutlined = from_point_adds (arc_on false) _ (λ _. refl) arc_few
  rule_adds Opcode.SetArcFilled = from_point_adds (arc_on true) _ (λ _. refl) arc_few
  rule_adds Opcode.RectOutlined = pen_adds _ (λ p ms h. each_adds (rect_on false) _ _ (λ _. refl) h (chain_few p ms))
  rule_adds Opcode.RectFilled = pen_adds _ (λ p ms h. each_adds (rect_on true) _ _ (λ _. refl) h (chain_few p ms))
  rule_adds Opcode.SetRectOutlined = pairs_add _ (λ ms h. each_adds (rect_on false) _ _ (λ _. refl) h (relative_few ms))
  rule_adds Opcode.SetRectFilled = pairs_add _ (λ ms h. each_adds (rect_on true) _ _ (λ _. refl) h (relative_few ms))
  rule_adds Opcode.PolyOutlined = from_pen_adds (poly_on false) _ (λ _. refl) poly_few
  rule_adds Opcode.PolyFilled = from_pen_adds (poly_on true) _ (λ _. refl) poly_few
  rule_adds Opcode.SetPolyOutlined = from_point_adds (poly_on false) _ (λ _. refl) poly_few
  rule_adds Opcode.SetPolyFilled = from_point_adds (poly_on true) _ (λ _. refl) poly_few
  rule_adds Opcode.Field = after_any most (area_of work (moves_of work run)) _ (λ area. omega arith)
  rule_adds Opcode.SetColor = set_color_adds (operands work.domain.multi run)
  rule_adds Opcode.Wait = omega (arith, each_weighs Entry.Wait run (λ _. refl))
  rule_adds Opcode.Blink = blinks_add _ _ (operands_few (work.domain.single + 3) run)
  rule_adds _ = omega arith

-- How many bytes the canonical text of an entry takes at most.

-- the bytes of a piece at most: its own, those of an opcode, and that of a shift

abbrev pub cost_of : Piece → ℕ
cost_of (opcode byte operands) = length operands + 2
cost_of (group byte operands) = length operands + 2
cost_of (primary code) = 2
cost_of (control bytes) = length bytes

abbrev pub cost : List Piece → ℕ
cost [] = 0
cost (p ∷ ps) = cost_of p + cost ps

pub cost_append : (ps qs : List Piece) → cost (ps ++ qs) ≡ cost ps + cost qs
cost_append [] qs = omega arith
cost_append (p ∷ ps) qs = omega (arith, cost_append ps qs)

shift_out_few : (gl : GSet) → length (shift_to_opcodes gl) ≤ 1
shift_out_few gl = grind arith

shift_in_few : (gl : GSet) → length (shift_to_primary gl) ≤ 1
shift_in_few gl = grind arith

piece_few : (t : TextEnd) (p : Piece) → length (piece_bytes t p) ≤ cost_of p
piece_few t (opcode byte operands) = omega (arith, length-append (shift_to_opcodes (gl_of t)) (byte ∷ operands), shift_out_few (gl_of t))
piece_few t (group byte operands) = grind (arith, length-append (shift_to_opcodes (gl_of t)) (byte ∷ operands), shift_out_few (gl_of t))
piece_few t (primary code) = omega (arith, length-append (shift_to_primary (gl_of t)) (code ∷ []), shift_in_few (gl_of t))
piece_few t (control bytes) = omega arith

pub pieces_few : (t : TextEnd) (ps : List Piece) → length (pieces_bytes t ps) ≤ cost ps
unfolding pieces_bytes
pieces_few t [] = omega arith
pieces_few t (p ∷ ps) = omega (arith, length-append (piece_bytes t p) (pieces_bytes (text_end_after_piece t p) ps), piece_few t p, pieces_few (text_end_after_piece t p) ps)

-- The commands of a prelude.

-- the pieces of commands cost at most n
abbrev pub Costs : ℕ → List Command → Type 0
Costs n cs = cost (map command_piece cs) ≤ n

-- commands after others
both_few : (m n : ℕ) (cs ds : List Command) → Costs m cs → Costs n ds → Costs (m + n) (cs ++ ds)
both_few m n [] ds h k = omega (arith, k)
both_few m n (c ∷ cs) ds h k = omega (arith, both_few (cost (map command_piece cs)) n cs ds (omega arith) k, h)

either_few : (n : ℕ) (b : Bool) (cs ds : List Command) → Costs n cs → Costs n ds → Costs n (if b then cs else ds)
either_few n true cs ds h k = h
either_few n false cs ds h k = k

unless_few : (n : ℕ) (same : Bool) (cs : List Command) → Costs n cs → Costs n (unless same cs)
unless_few n same cs h = either_few n same [] cs (omega arith) h

pen_few : (old : Pen) (wanted : Option Pen) → Costs 10 (pen_prelude old wanted)
unfolding pen_prelude
pen_few old None = omega arith
pen_few old (Some (Pen.At p)) = unless_few 10 (same_pen old (Pen.At p)) _ (omega (arith, point_size p))
pen_few old (Some pen) = unless_few 10 (same_pen old pen) _ (omega arith)

pel_few : (old : Displacement) (wanted : Option Displacement) → Costs 11 (pel_prelude old wanted)
unfolding pel_prelude
pel_few old None = omega arith
pel_few old (Some m) = unless_few 11 (same_move old m) _ (omega (arith, move_size m))

base_few : (old : Colour) → Costs 2 (base_commands old)
base_few old = grind arith

colour_commands_few : (base : Base) (old colour : Colour) → Costs 12 (colour_commands base old colour)
colour_commands_few base old (Colour.Direct grb) = both_few 2 10 (base_commands old) _ (base_few old) (unless_few 10 (same_base base (Base.Direct grb)) _ (omega (arith, grb_size grb)))
colour_commands_few base old (Colour.Front a) = omega (arith, addr_size a)
colour_commands_few base old (Colour.Pair a b) = omega (arith, length-append (addr_bytes a) (addr_bytes b), addr_size a, addr_size b)
colour_commands_few base old _ = omega arith

colour_prelude_few : (base : Base) (old : Colour) (wanted : Option Colour) → Costs 12 (colour_prelude base old wanted)
unfolding colour_prelude
colour_prelude_few base old None = omega arith
colour_prelude_few base old (Some colour) = unless_few 12 (same_colour old colour) (colour_commands base old colour) (colour_commands_few base old colour)

mask_few : (word : ℕ) (old wanted : Option Displacement) → Costs 11 (mask_commands word old wanted)
mask_few word (Some old) (Some m) = either_few 11 (same_move old m) _ _ (omega arith) (omega (arith, move_size m))
mask_few word None (Some m) = omega (arith, move_size m)
mask_few word old None = omega arith

texture_few : (old : Texture) (wanted : Option Texture) → Costs 11 (texture_prelude old wanted)
unfolding texture_prelude
texture_few old None = omega arith
texture_few old (Some t) = unless_few 11 (same_texture old t) _ (mask_few t.word old.mask t.mask)

words_few : (old t : TextLook) → Costs 12 (words_commands old t)
words_few old t = unless_few 12 (old.first == t.first && old.second == t.second) _ (omega arith)

given_few : (old t : TextLook) (size : CharSize) → Costs 12 (given_size_commands old t size)
given_few old t (CharSize.Named size) = words_few old t
given_few old t (CharSize.Given m) = either_few 12 (same_size old.size (CharSize.Given m)) _ _ (words_few old t) (omega (arith, move_size m))

named_few : (old size : CharSize) → Costs 2 (named_size_commands old size)
named_few old (CharSize.Given m) = omega arith
named_few old (CharSize.Named size) = unless_few 2 (same_size old (CharSize.Named size)) _ (omega arith)

flag_few : (f : _) (old on : Bool) → Costs 2 (flag_commands f old on)
flag_few f old on = unless_few 2 (same_flag old on) _ (omega arith)

look_few : (old : TextLook) (wanted : Option TextLook) → Costs 22 (text_prelude old wanted)
unfolding text_prelude
look_few old None = omega arith
look_few old (Some t) =
    both_few 12 10 (given_size_commands old t t.size) _ (given_few old t t.size)
    (both_few 2 8 (named_size_commands old.size t.size) _ (named_few old.size t.size)
    (both_few 2 6 _ _ (flag_few _ old.reverse t.reverse)
    (both_few 2 4 _ _ (flag_few _ old.underline t.underline)
    (both_few 2 2 _ _ (flag_few _ old.wrap t.wrap) (flag_few _ old.scroll t.scroll)))))

pub prelude_few : (d : Drawing) (h : Attributes) → Costs 66 (prelude d h)
unfolding prelude
prelude_few d h =
    both_few 10 56 (pen_prelude d.pen h.pen) _ (pen_few d.pen h.pen)
    (both_few 11 45 (pel_prelude d.pel h.pel) _ (pel_few d.pel h.pel)
    (both_few 12 33 (colour_prelude d.base d.colour h.colour) _ (colour_prelude_few d.base d.colour h.colour)
    (both_few 11 22 (texture_prelude d.texture h.texture) (text_prelude d.text h.text) (texture_few d.texture h.texture) (look_few d.text h.text))))

-- the spelling of an entry

shape_few : (ps : List Coordinates) → length (shape_bytes ps) ≤ 8 * length ps
shape_few [] = omega arith
shape_few (p ∷ ps) = omega (arith, length-append (point_bytes p) (displacement_bytes p ps), point_size p, displacements_size p ps)

pub char_few : (set : CharSet) (code : ℕ) → cost_of (char_piece set code) ≤ 8
char_few set code = grind arith

step_few : (step : TextStep) → length (step_bytes step) ≤ 3
step_few step = grind arith

line_few : (pen : Pen) (from to : Coordinates) → cost_of (line_piece Two pen from to) ≤ 18
line_few pen from to = grind (arith, length-append (point_bytes from) (point_bytes to), point_size from, point_size to)

again_few : (first : ℕ) → cost (domain_again first) ≤ 3
again_few first = grind arith

spelling_few : (d : Drawing) (e : Entry) → cost (spelling_pieces Two d e) ≤ 24 + 8 * points_of e
spelling_few d (Entry.Point at pel colour) = omega (arith, point_size at)
spelling_few d (Entry.Line from to ink) = omega (arith, line_few d.pen from to)
spelling_few d (Entry.Arc filled points ink) = omega (arith, shape_few points)
spelling_few d (Entry.Rect filled from to ink) = omega (arith, shape_few (from ∷ to ∷ []))
spelling_few d (Entry.Poly filled points ink) = omega (arith, shape_few points)
spelling_few d (Entry.Char set code hand) = omega (arith, char_few set code)
spelling_few d (Entry.TextMove step hand) = omega (arith, step_few step)
spelling_few d (Entry.Map a grb) =
    let selected = map command_piece (colour_prelude d.base d.colour (Some (Colour.Front a))) in
    omega (arith, cost_append selected (opcode 0x3C (grb_bytes grb) ∷ []), colour_prelude_few d.base d.colour (Some (Colour.Front a)), grb_size grb)
spelling_few d (Entry.Blink a on off delay colour) = omega (arith, length-append (addr_bytes a) (word_byte on ∷ word_byte off ∷ word_byte delay ∷ []), addr_size a)
spelling_few d (Entry.Field (Area.Part from to) pen) = omega (arith, shape_few (from ∷ to ∷ []))
spelling_few d (Entry.Reset first second pen) = omega (arith, again_few first)
spelling_few d _ = omega arith

-- the text of entries

pub entry_few : (s : State) (e : Entry) → cost (entry_pieces Two s e) ≤ 90 + 8 * points_of e
entry_few s e =
    let before = map command_piece (prelude s.drawing (attributes e)) in
    let d = with_attributes s.drawing (attributes e) in
    omega (arith, cost_append before (spelling_pieces Two d e), prelude_few s.drawing (attributes e), spelling_few d e)

pub entries_few : (s : State) (es : List Entry) → cost (pieces Two s es) ≤ weight es
unfolding pieces
entries_few s [] = omega arith
entries_few s (e ∷ es) = omega (arith, cost_append (entry_pieces Two s e) (pieces Two (after s e) es), entry_few s e, entries_few (after s e) es)
