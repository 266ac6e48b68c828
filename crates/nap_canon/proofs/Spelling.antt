-- How commands and entries are spelled in pieces, which convey them to a reader.

use Rattle.nap_canon.proofs.{All, All-cons, All-head, All-nil, All-tail, AllFit, AllInRange, Area, Attributes, AttributesInRange, Base, Bool, CanJoin, CharSet, Code, Colour, Command, Components, Coordinates, CursorKind, Displacement, DrawFault, Drawing, Entry, Fits, Flag, Form, GSet, Hand, HasSixteenBitParts, InRange, Ink, IsAddress, IsAlone, IsCode, IsGraphic, IsInSquare, IsPlainCode, IsSome, IsWord, LastChar, List, Mask, MayFollowCode, ModeZeroIsBase, None, Ok, Opcode, OpenDefinition, OperandLengths, Option, Pen, Piece, PlainCodes.IsOpcode, PlainCodes.operand_codes, PlainCodes.sets_with, Result, RuleResult, Size, Some, Spells, State, StepMade, TextEnd, TextStep, Whole, Work, [], absolute_spans, addr_bytes, after, ap, append-nil, append_assoc, arc_on, arc_points, arith, attributes, base_after, char_piece, code_rule, colour_prelude, command_piece, control, control0_rows, control1_rows, cursor_byte, definition_ended_by, definition_opened, displacements_lead_there, domain, domain_again, drawing_with_set_color, effect, effects, entry_pieces, escape, false, flag_byte, grb_bytes, group, if◌then◌else◌, inl, inr, is_known, joinable_piece, joins_open_run, last_or, left_out_opcode, length, map, map_pieces, mask_byte, mask_rows, move_bytes, nat_tests, no_operands, non_pdi_code, opcode, opcode_rows, point_bytes, points_at, points_limit, points_reached, poly_on, poly_points, polyline_spans, prelude, refl, relative_spans, row_of, rule, rule_result, run_limit, set_color_under, shape_bytes, shape_from_point, size_byte, spelling_pieces, start_domain, step_bytes, subst, sym, text_lengths, true, unwrap_or, walk, with_attributes, with_colour, with_last, word_byte, words_of, ℕ, ⊤, ◌%◌, ◌*◌, ◌++◌, ◌+◌, ◌-◌, ◌/◌, ◌<◌, ◌==◌, ◌∙◌, ◌∷◌, ◌≡◌, ◌≤◌, ◌⊎◌}
use Rattle.nap_canon.proofs.Pieces.{Begins, ConveyAll, Conveys, by_control, by_drcs, by_opcode, by_primary, convey_begin, next, no_pieces, nothing_conveyed, resets}
use Rattle.nap_canon.proofs.Preludes.{AllTake, CommandInRange, IsInMode, IsModeZero, Leads, Takes, colour_leads, in_mode_after, pen_is, prelude_sets}
use Rattle.nap_canon.proofs.Operands.{AreOperands, address_alone, address_operand, address_pair, arc_leads, blink_rule, both_bytes, colour_alone, colour_operand, colour_there, corners_read, move_alone, move_operand, no_addresses, no_bytes, no_moves, point_alone, point_operand, point_there, poly_leads, shape_operands, shape_rule, two_points, word_bytes, word_of, work_at}
use Rattle.nap_codes.specs.Spelling as spells

-- The piece of a command conveys what the command does, and no entry.

-- nothing is drawn, and the command has its effect
abbrev performed : OperandLengths → State → Command → RuleResult
performed saved s c = record { entries = []; work = work_at saved (record s { drawing = effect c s.drawing }); clears = false }

abbrev IsPerformed : OperandLengths → State → Command → Type 0
IsPerformed saved s c = Conveys (work_at saved s) (command_piece c) [] (performed saved s c).work

set_base : (saved : OperandLengths) (s : State) (colour : Colour) (grb : Components) → IsModeZero colour →
    set_color_under (work_at saved s) colour grb ≡ Ok (record { entries = []; work = work_at saved (record s { drawing = drawing_with_set_color colour grb s.drawing }); clears = false })
unfolding walk
set_base saved s colour grb h = grind arith

size_row : (size : Size) → row_of control1_rows (size_byte size) ≡ Some (Whole (Code.Named size))
unfolding row_of control1_rows
size_row size = grind arith

-- the code of a mode of text, on or off
abbrev flag_code : Flag → Bool → Code
flag_code Flag.Reverse on = Code.Reverse on
flag_code Flag.Underline on = Code.Underline on
flag_code Flag.Wrap on = Code.Wrap on
flag_code Flag.Scroll on = Code.Scroll on

flag_row : (flag : Flag) (on : Bool) → row_of control1_rows (flag_byte flag on) ≡ Some (Whole (flag_code flag on))
unfolding row_of control1_rows
flag_row flag on = grind arith

flag_conveys : (saved : OperandLengths) (s : State) (flag : Flag) (on : Bool) → IsPerformed saved s (Command.flag flag on)
unfolding walk
flag_conveys saved s Flag.Reverse on = by_control 0x1B (flag_byte Flag.Reverse on ∷ []) (Code.Reverse on) (performed saved s (Command.flag Flag.Reverse on)) (omega arith) tt tt (λ gl. spells.control1 (flag_row Flag.Reverse on)) refl
flag_conveys saved s flag on = by_control 0x1B (flag_byte flag on ∷ []) (flag_code flag on) (performed saved s (Command.flag flag on)) (omega arith) tt tt (λ gl. spells.control1 (flag_row flag on)) refl

command_conveys : (saved : OperandLengths) (s : State) (c : Command) → CommandInRange c → Takes c s.drawing → IsPerformed saved s c
unfolding walk points_at last_or row_of opcode_rows left_out_opcode
command_conveys saved s (Command.point_set p) inside takes =
    by_opcode 0x24 Opcode.PointSetAbs (point_bytes p) 8 (performed saved s (Command.point_set p)) (refl, refl, tt, omega arith)
    (point_operand p inside) (omega arith) (λ rest. tt) (rw (point_alone p inside, point_there p inside) refl)
command_conveys saved s (Command.pel m) inside takes =
    by_opcode 0x21 Opcode.Domain (0x5F ∷ move_bytes m) 9 (performed saved s (Command.pel m)) (refl, refl, tt, omega arith)
    (word_bytes 31 (omega arith) (move_operand m inside)) (omega arith) (λ rest. refl) (rw (move_alone m inside) refl)
command_conveys saved s Command.select_base inside takes =
    by_opcode 0x3E Opcode.SelectColor [] 0 (performed saved s Command.select_base) (refl, refl, tt, omega arith) no_bytes (omega arith) (λ rest. tt) (rw no_addresses refl)
command_conveys saved s (Command.select_front a) inside takes =
    by_opcode 0x3E Opcode.SelectColor (addr_bytes a) 4 (performed saved s (Command.select_front a)) (refl, refl, tt, omega arith)
    (address_operand a inside) (omega arith) (λ rest. tt) (rw (address_alone a inside) refl)
command_conveys saved s (Command.select_pair a b) inside takes =
    by_opcode 0x3E Opcode.SelectColor (addr_bytes a ++ addr_bytes b) 8 (performed saved s (Command.select_pair a b)) (refl, refl, tt, omega arith)
    (both_bytes (address_operand a inside.0) (address_operand b inside.1)) (omega arith) (λ rest. tt)
    (rw (address_pair a b inside.0 inside.1) refl)
command_conveys saved s (Command.set_color grb) inside takes =
    by_opcode 0x3C Opcode.SetColor (grb_bytes grb) 8 (performed saved s (Command.set_color grb)) (refl, refl, tt, omega arith)
    (colour_operand grb inside) (omega arith) (λ rest. tt) (rw (colour_alone grb inside, colour_there grb inside) (set_base saved s s.drawing.colour grb takes))
command_conveys saved s (Command.texture word) inside takes =
    by_opcode 0x23 Opcode.Texture (word_byte word ∷ []) 1 (performed saved s (Command.texture word)) (refl, refl, tt, omega arith)
    (word_bytes word inside no_bytes) (omega arith) (λ rest. tt) (rw (word_of word, no_moves) refl)
command_conveys saved s (Command.texture_mask word m) inside takes =
    by_opcode 0x23 Opcode.Texture (word_byte word ∷ move_bytes m) 9 (performed saved s (Command.texture_mask word m)) (refl, refl, tt, omega arith)
    (word_bytes word inside.0 (move_operand m inside.1)) (omega arith) (λ rest. tt) (rw (word_of word, move_alone m inside.1) refl)
command_conveys saved s (Command.text first second) inside takes =
    by_opcode 0x22 Opcode.Text (word_byte first ∷ word_byte second ∷ []) 2 (performed saved s (Command.text first second)) (refl, refl, tt, omega arith)
    (word_bytes first inside.0 (word_bytes second inside.1 no_bytes)) (omega arith) (λ rest. tt)
    (rw (word_of first, word_of second, no_moves) refl)
command_conveys saved s (Command.text_size first second m) inside takes =
    by_opcode 0x22 Opcode.Text (word_byte first ∷ word_byte second ∷ move_bytes m) 10 (performed saved s (Command.text_size first second m)) (refl, refl, tt, omega arith)
    (word_bytes first inside.0 (word_bytes second inside.1 (move_operand m inside.2))) (omega arith) (λ rest. tt)
    (rw (word_of first, word_of second, move_alone m inside.2) refl)
command_conveys saved s (Command.named size) inside takes =
    by_control 0x1B (size_byte size ∷ []) (Code.Named size) (performed saved s (Command.named size)) (omega arith) tt tt (λ gl. spells.control1 (size_row size)) refl
command_conveys saved s (Command.flag flag on) inside takes = flag_conveys saved s flag on

-- commands, and what comes after them
pub commands_after : (saved : OperandLengths) (s : State) (cs : List Command) (qs : List Piece) (es : List Entry) (left : Work) → All CommandInRange cs → AllTake cs s.drawing →
    ConveyAll (work_at saved (record s { drawing = effects cs s.drawing })) qs es left → ConveyAll (work_at saved s) (map command_piece cs ++ qs) es left
commands_after saved s [] qs es left inside all conveyed = conveyed
commands_after saved s (c ∷ cs) qs es left inside all conveyed =
    next (command_conveys saved s c (All-head CommandInRange c cs inside) all.0)
    (commands_after saved (record s { drawing = effect c s.drawing }) cs qs es left (All-tail CommandInRange c cs inside) all.1 conveyed)

-- The operand lengths that a definition saved, along canonical text.

-- the saved operand lengths after an entry
abbrev pub saved_after : OperandLengths → Entry → OperandLengths
saved_after saved (Entry.GlyphStart code) = text_lengths
saved_after saved (Entry.MaskStart mask) = text_lengths
saved_after saved _ = saved

-- the saved operand lengths after entries, one after another
unfoldable pub saved_along : OperandLengths → List Entry → OperandLengths
saved_along saved [] = saved
saved_along saved (e ∷ es) = saved_along (saved_after saved e) es

-- a definition that is open saved eight words and four
abbrev pub SavesLengths : OperandLengths → Option OpenDefinition → Type 0
SavesLengths saved None = ⊤
SavesLengths saved (Some opened) = saved ≡ text_lengths

pub saves_after : (saved : OperandLengths) (s : State) (e : Entry) → SavesLengths saved s.definition → SavesLengths (saved_after saved e) (after s e).definition
saves_after saved s e h = grind arith

pub saves_along : (saved : OperandLengths) (s : State) (es : List Entry) → SavesLengths saved s.definition →
    SavesLengths (saved_along saved es) (walk s es).definition
unfolding saved_along walk
saves_along saved s [] h = h
saves_along saved s (e ∷ es) h = saves_along (saved_after saved e) (after s e) es (saves_after saved s e h)

-- The state in which the attributes of an entry are current, and how the entry is drawn in it.

-- taking the same attributes twice is taking them once

unwrap_twice : {A : Type 0} (w : Option A) (a : A) → unwrap_or w (unwrap_or w a) ≡ unwrap_or w a
unwrap_twice w a = grind arith

base_twice : (base : Base) (w : Option Colour) → base_after (base_after base w) w ≡ base_after base w
base_twice base w = grind arith

taking_twice : (d : Drawing) (h : Attributes) → with_attributes (with_attributes d h) h ≡ with_attributes d h
taking_twice d h = grind (arith, unwrap_twice, base_twice)

-- the state in which the attributes of an entry are current
abbrev pub holding : State → Entry → State
holding s e = record s { drawing = with_attributes s.drawing (attributes e) }

pub after_holding : (s : State) (e : Entry) → after (holding s e) e ≡ after s e
after_holding s e = grind (arith, taking_twice)

-- the work in which the attributes of an entry are current
abbrev pub work_with_attributes : OperandLengths → State → Entry → Work
work_with_attributes saved s e = work_at saved (holding s e)

-- the entry is drawn with the current attributes
abbrev pub entry_drawn : OperandLengths → State → Entry → RuleResult
entry_drawn saved s e = rule_result (work_with_attributes saved s e) (e ∷ [])

-- these pieces draw the entry
abbrev pub Draws : OperandLengths → State → Entry → List Piece → Type 0
Draws saved s e ps = ConveyAll (work_with_attributes saved s e) ps (e ∷ []) (work_at (saved_after saved e) (after s e))

-- an entry by one piece
pub piece_draws : (saved : OperandLengths) (s : State) (e : Entry) (p : Piece) → Conveys (work_with_attributes saved s e) p (e ∷ []) (entry_drawn saved s e).work →
    ConveyAll (work_with_attributes saved s e) (p ∷ []) (e ∷ []) (work_at saved (after s e))
unfolding walk
piece_draws saved s e p c = subst (λ (t : State). ConveyAll (work_with_attributes saved s e) (p ∷ []) (e ∷ []) (work_at saved t)) (after_holding s e) (next c no_pieces)

-- Opcodes whose runs can be joined: they draw points, lines and rectangles.

-- An opcode whose runs can be joined draws an entry with this group of operands, if the attributes of the entry are
-- current.
pub record Strokes (saved : OperandLengths) (s : State) (e : Entry) (byte : ℕ) (operands : List ℕ) : Type 0 where
  pub op : Opcode
  pub joins : CanJoin op
  pub is : IsOpcode byte op
  pub groups : ℕ
  pub few : groups ≤ 2
  pub are : AreOperands operands (groups * 8)
  pub draws : rule (work_with_attributes saved s e) op (words_of operands) ≡ Ok (record { entries = e ∷ []; work = work_at (saved_after saved e) (after s e); clears = false })

-- by the rule
strokes : {saved : OperandLengths} {s : State} {e : Entry} {byte : ℕ} {operands : List ℕ} (op : Opcode) (groups : ℕ) → saved_after saved e ≡ saved → CanJoin op → IsOpcode byte op →
    groups ≤ 2 → AreOperands operands (groups * 8) → rule (work_with_attributes saved s e) op (words_of operands) ≡ Ok (entry_drawn saved s e) → Strokes saved s e byte operands
unfolding walk
strokes op groups same joins is few are by = grind (arith, after_holding)

pub point_strokes : (saved : OperandLengths) (s : State) (at : Coordinates) (pel : Displacement) (colour : Colour) → IsInSquare at →
    Strokes saved s (Entry.Point at pel colour) 0x26 (point_bytes at)
unfolding points_at row_of opcode_rows left_out_opcode
point_strokes saved s at pel colour inside =
    strokes Opcode.PointAbs 1 refl tt (refl, refl, tt, omega arith) (omega arith) (point_operand at inside) (rw (point_alone at inside, point_there at inside) refl)

pub line_strokes : (saved : OperandLengths) (s : State) (from to : Coordinates) (ink : Ink) → IsInSquare from → IsInSquare to →
    Strokes saved s (Entry.Line from to ink) 0x2A (point_bytes from ++ point_bytes to)
unfolding absolute_spans row_of opcode_rows left_out_opcode
line_strokes saved s from to ink first second =
    strokes Opcode.SetLineAbs 2 refl tt (refl, refl, tt, omega arith) (omega arith)
    (both_bytes (point_operand from first) (point_operand to second)) (rw (two_points from to first second, point_there from first, point_there to second) refl)

-- a line from the pen
pub on_line_strokes : (saved : OperandLengths) (s : State) (from to : Coordinates) (ink : Ink) → s.drawing.pen ≡ Pen.At from → IsInSquare to →
    Strokes saved s (Entry.Line from to ink) 0x28 (point_bytes to)
unfolding points_at polyline_spans row_of opcode_rows left_out_opcode
on_line_strokes saved s from to ink pen second =
    strokes Opcode.LineAbs 1 refl tt (refl, refl, tt, omega arith) (omega arith) (point_operand to second) (rw (point_alone to second, point_there to second, pen) refl)

pub rect_strokes : (saved : OperandLengths) (s : State) (filled : Bool) (from to : Coordinates) (ink : Ink) → IsInSquare from → IsInSquare to →
    Strokes saved s (Entry.Rect filled from to ink) (if filled then 0x33 else 0x32) (shape_bytes (from ∷ to ∷ []))
unfolding relative_spans row_of opcode_rows left_out_opcode
rect_strokes saved s filled from to ink first second = by filled
  where
    all : All IsInSquare (to ∷ [])
    all = All-cons IsInSquare to [] second (All-nil IsInSquare)

    by : (filled : Bool) → Strokes saved s (Entry.Rect filled from to ink) (if filled then 0x33 else 0x32) (shape_bytes (from ∷ to ∷ []))
    by false =
        strokes Opcode.SetRectOutlined 2 refl tt (refl, refl, tt, omega arith) (omega arith)
        (shape_operands from (to ∷ []) first all) (rw (corners_read from to first second, point_there from first, (displacements_lead_there from to first second).1) refl)
    by true =
        strokes Opcode.SetRectFilled 2 refl tt (refl, refl, tt, omega arith) (omega arith)
        (shape_operands from (to ∷ []) first all) (rw (corners_read from to first second, point_there from first, (displacements_lead_there from to first second).1) refl)

-- nothing has to come after such an opcode
pub joining_comes : (op : Opcode) → CanJoin op → (rest : List Code) → MayFollowCode (Code.Op op) rest
joining_comes op h rest = grind arith

-- alone, as in form 1, it draws the entry
pub stroke_draws : (saved : OperandLengths) (s : State) (e : Entry) (byte : ℕ) (operands : List ℕ) → Strokes saved s e byte operands → Draws saved s e (opcode byte operands ∷ [])
stroke_draws saved s e byte operands k =
    let d : RuleResult = record { entries = e ∷ []; work = work_at (saved_after saved e) (after s e); clears = false } in
    next (by_opcode byte k.op operands (k.groups * 8) d k.is k.are (omega (arith, k.few)) (λ rest. joining_comes k.op k.joins (operand_codes operands ++ rest)) k.draws) no_pieces

-- The spelling of each kind of entry whose attributes are current, and that a reader draws it.

graphic : (byte : ℕ) → IsCode byte → IsGraphic byte
graphic byte made = (omega (arith, made.0), omega (arith, made.1))

module _ (saved : OperandLengths) (s : State) (e : Entry) where
  abbrev OnePiece : Piece → Type 0
  OnePiece p = ConveyAll (work_with_attributes saved s e) (p ∷ []) (e ∷ []) (work_at saved (after s e))

  -- an opcode
  opcode_draws : (byte : ℕ) (op : Opcode) (bytes : List ℕ) (size : ℕ) → IsOpcode byte op → AreOperands bytes size → size ≤ run_limit → ((rest : List Code) → MayFollowCode (Code.Op op) rest) →
      rule (work_with_attributes saved s e) op (words_of bytes) ≡ Ok (entry_drawn saved s e) → OnePiece (opcode byte bytes)
  opcode_draws byte op bytes size is are few comes by =
      piece_draws saved s e (opcode byte bytes) (by_opcode byte op bytes size (entry_drawn saved s e) is are few (λ rest. comes (operand_codes bytes ++ rest)) by)

  -- an arc or a polygon
  shape_draws : (byte : ℕ) (op : Opcode) (entry : Drawing → List Coordinates → Entry) (points : Coordinates → List Displacement → Option (List Coordinates)) (p q : Coordinates) (qs : List Coordinates) →
      IsOpcode byte op → ((rest : List Code) → MayFollowCode (Code.Op op) rest) → ((run : List ℕ) → rule (work_with_attributes saved s e) op run ≡ shape_from_point (work_with_attributes saved s e) run entry points) →
      entry (holding s e).drawing (p ∷ q ∷ qs) ≡ e → All IsInSquare (p ∷ q ∷ qs) → length (p ∷ q ∷ qs) ≤ points_limit →
      ((ms : List Displacement) → points_reached p ms ≡ Some (q ∷ qs) → points p ms ≡ Some (p ∷ q ∷ qs)) → OnePiece (opcode byte (shape_bytes (p ∷ q ∷ qs)))
  shape_draws byte op entry points p q qs is comes by same all few leads =
      let first : IsInSquare p = All-head IsInSquare p (q ∷ qs) all in
      let others : All IsInSquare (q ∷ qs) = All-tail IsInSquare p (q ∷ qs) all in
      opcode_draws byte op (shape_bytes (p ∷ q ∷ qs)) (8 + 8 * length (q ∷ qs)) is (shape_operands p (q ∷ qs) first others) (omega (arith, few)) comes
      (by (words_of (shape_bytes (p ∷ q ∷ qs)))
      ∙ shape_rule saved (holding s e) entry points p q qs first others (omega (arith, few)) leads
      ∙ ap (λ (x : Entry). Ok (rule_result (work_with_attributes saved s e) (x ∷ []))) same)

  -- a control
  control_draws : (byte : ℕ) (bytes : List ℕ) (c : Code) → byte < 32 → IsAlone c → IsPlainCode c → ((gl : GSet) → Spells (sets_with gl) (byte ∷ bytes) c (sets_with gl)) →
      code_rule (work_with_attributes saved s e) c ≡ Ok (entry_drawn saved s e) → OnePiece (control (byte ∷ bytes))
  control_draws byte bytes c below alone plain spells by = piece_draws saved s e (control (byte ∷ bytes)) (by_control byte bytes c (entry_drawn saved s e) below alone plain spells by)

-- characters, and moves of the text
module _ (saved : OperandLengths) (s : State) (hand : Hand) where
  char_draws : (set : CharSet) (byte : ℕ) → IsCode byte → Draws saved s (Entry.Char set byte hand) (char_piece set byte ∷ [])
  unfolding non_pdi_code
  char_draws CharSet.Primary byte made =
      let e : Entry = Entry.Char CharSet.Primary byte hand in
      piece_draws saved s e (char_piece CharSet.Primary byte) (by_primary byte (entry_drawn saved s e) (graphic byte made) refl)
  char_draws CharSet.Supplementary byte made =
      control_draws saved s (Entry.Char CharSet.Supplementary byte hand) 0x19 (byte ∷ []) (Code.Char CharSet.Supplementary byte) (omega arith) tt tt (λ gl. spells.single_shift2 (graphic byte made) refl) refl
  char_draws CharSet.Mosaic byte made =
      control_draws saved s (Entry.Char CharSet.Mosaic byte hand) 0x1D (byte ∷ []) (Code.Char CharSet.Mosaic byte) (omega arith) tt tt (λ gl. spells.single_shift3 (graphic byte made) refl) refl
  char_draws CharSet.Drcs byte made =
      let e : Entry = Entry.Char CharSet.Drcs byte hand in
      piece_draws saved s e (char_piece CharSet.Drcs byte) (by_drcs byte (entry_drawn saved s e) (graphic byte made) refl)

  -- one byte
  effector_draws : (step : TextStep) (byte : ℕ) → byte < 32 → row_of control0_rows byte ≡ Some (Whole (Code.Step step)) → Draws saved s (Entry.TextMove step hand) (control (byte ∷ []) ∷ [])
  effector_draws step byte below row = control_draws saved s (Entry.TextMove step hand) byte [] (Code.Step step) below tt tt (λ gl. spells.control0 row (λ is. cc)) refl

  step_draws : (step : TextStep) → StepMade step → Draws saved s (Entry.TextMove step hand) (control (step_bytes step) ∷ [])
  unfolding row_of control0_rows
  step_draws (TextStep.Aps row column) made =
      control_draws saved s (Entry.TextMove (TextStep.Aps row column) hand) 0x1C (row ∷ column ∷ []) (Code.Step (TextStep.Aps row column)) (omega arith) tt tt
      (λ gl. spells.position (graphic row made.0) (graphic column made.1)) refl
  step_draws TextStep.Apb made = effector_draws TextStep.Apb 0x08 (omega arith) refl
  step_draws TextStep.Apf made = effector_draws TextStep.Apf 0x09 (omega arith) refl
  step_draws TextStep.Apd made = effector_draws TextStep.Apd 0x0A (omega arith) refl
  step_draws TextStep.Apu made = effector_draws TextStep.Apu 0x0B (omega arith) refl
  step_draws TextStep.Apr made = effector_draws TextStep.Apr 0x0D (omega arith) refl
  step_draws TextStep.Aph made = effector_draws TextStep.Aph 0x1E (omega arith) refl

with_some : (last : Option LastChar) (result : Result RuleResult DrawFault) → IsSome last → with_last last (λ l. result) ≡ result
with_some last result h = grind arith

cursor_row : (kind : CursorKind) → row_of control1_rows (cursor_byte kind) ≡ Some (Whole (Code.Cursor kind))
unfolding row_of control1_rows
cursor_row kind = grind arith

mark_row : (on : Bool) → row_of control1_rows (if on then 0x4E else 0x5E) ≡ Some (Whole (Code.BlinkMark on))
unfolding row_of control1_rows
mark_row on = grind arith

mask_row : (mask : Mask) → row_of mask_rows (mask_byte mask) ≡ Some mask
unfolding row_of mask_rows
mask_row mask = grind arith

-- a colour of the colour map, after its address is selected
map_draws : (saved : OperandLengths) (s : State) (a : ℕ) (grb : Components) → IsAddress a → HasSixteenBitParts grb → ModeZeroIsBase s.drawing.base s.drawing.colour → is_known a grb s.known ≡ false →
    Draws saved s (Entry.Map a grb) (map_pieces s.drawing a grb)
unfolding row_of opcode_rows left_out_opcode
map_draws saved s a grb address colour mode new =
    let e : Entry = Entry.Map a grb in
    let front : Option Colour = Some (Colour.Front a) in
    let cs : List Command = colour_prelude s.drawing.base s.drawing.colour front in
    let between : Drawing = with_colour (Colour.Front a) s.drawing in
    let led = colour_leads (IsAddress a) s.drawing s.drawing.base s.drawing.colour mode front tt (λ inside. inside) in
    let d : RuleResult = record { entries = e ∷ []; work = work_at saved (after s e); clears = false } in
    commands_after saved s cs (opcode 0x3C (grb_bytes grb) ∷ []) (e ∷ []) (work_at saved (after s e)) (led.inside address) led.takes
    (subst (λ (d : Drawing). ConveyAll (work_at saved (record s { drawing = d })) (opcode 0x3C (grb_bytes grb) ∷ []) (e ∷ []) (work_at saved (after s e))) (sym led.there)
    (next (by_opcode 0x3C Opcode.SetColor (grb_bytes grb) 8 d (refl, refl, tt, omega arith) (colour_operand grb colour) (omega arith) (λ rest. tt) (rw (colour_alone grb colour, colour_there grb colour, new) refl)) no_pieces))

-- RESET, with DOMAIN after it if it resets the operand lengths

even_word : (first : ℕ) → (first % 2 == 1) ≡ false → (word_byte first - 64) % 2 ≡ 1 → ⊥
even_word first even odd = grind (arith, nat_tests, word_of)

reset_draws : (saved : OperandLengths) (s : State) (first second : ℕ) (pen : Pen) → IsWord first → IsWord second →
    Draws saved s (Entry.Reset first second pen) (opcode 0x20 (word_byte first ∷ word_byte second ∷ []) ∷ domain_again first)
unfolding walk row_of opcode_rows left_out_opcode
reset_draws saved s first second pen one two = at (first % 2 == 1) refl
  where
    e : Entry
    e = Entry.Reset first second pen

    bytes : List ℕ
    bytes = word_byte first ∷ word_byte second ∷ []

    result : Bool → State → RuleResult
    result back t = record { entries = e ∷ []; work = record (work_at saved t) { domain = if back then start_domain else text_lengths }; clears = second / 16 % 2 == 1 }

    by : rule (work_with_attributes saved s e) Opcode.Reset (words_of bytes) ≡ Ok (result (first % 2 == 1) (after s e))
    by = rw (word_of first, word_of second) (ap (λ (t : State). Ok (result (first % 2 == 1) t)) (after_holding s e))

    at : (back : Bool) → (first % 2 == 1) ≡ back → ConveyAll (work_with_attributes saved s e) (opcode 0x20 bytes ∷ (if back then domain [] ∷ [] else [])) (e ∷ []) (work_at saved (after s e))
    at true is = resets first second (result true (after s e)) one two (by ∙ ap (λ (b : Bool). Ok (result b (after s e))) is)
    at false is =
        next (by_opcode 0x20 Opcode.Reset bytes 2 (result false (after s e)) (refl, refl, tt, omega arith) (word_bytes first one (word_bytes second two no_bytes))
        (omega arith) (λ rest odd. absurd (even_word first is odd)) (by ∙ ap (λ (b : Bool). Ok (result b (after s e))) is)) no_pieces

-- definitions

-- if no definition is open, the entry opens one
abbrev opens : OperandLengths → State → Entry → RuleResult
opens saved s e = definition_opened (rule_result (work_with_attributes saved s e) []) e

end_draws : (saved : OperandLengths) (s : State) (o : Option OpenDefinition) → s.definition ≡ o → IsSome o → SavesLengths saved o → Draws saved s Entry.DefEnd (escape 0x45 ∷ [])
unfolding walk row_of control1_rows
end_draws saved s None is never kept = cc
end_draws saved s (Some opened) is some kept =
    let d : RuleResult = definition_ended_by (work_with_attributes saved s Entry.DefEnd) (Some opened) in
    subst (λ (lengths : OperandLengths). ConveyAll (work_with_attributes saved s Entry.DefEnd) (escape 0x45 ∷ []) (Entry.DefEnd ∷ []) (record (work_at saved (after s Entry.DefEnd)) { domain = lengths })) kept
    (next (by_control 0x1B (0x45 ∷ []) Code.End d (omega arith) tt tt (λ gl. spells.control1 refl) (rw is refl)) no_pieces)

-- a group draws the entry
pub record ByGroup (form : Form) (saved : OperandLengths) (s : State) (e : Entry) : Type 0 where
  pub byte : ℕ
  pub operands : List ℕ
  pub spelled_as : spelling_pieces form (with_attributes s.drawing (attributes e)) e ≡ group byte operands ∷ []
  pub strokes : Strokes saved s e byte operands

-- An entry is spelled by a group of operands, or by pieces that join no run and leave none.
abbrev pub Kind : Form → OperandLengths → State → Entry → Type 0
Kind form saved s e = ByGroup form saved s e ⊎ Draws saved s e (spelling_pieces form (with_attributes s.drawing (attributes e)) e)

stroke_kind : (form : Form) {saved : OperandLengths} {s : State} {e : Entry} {byte : ℕ} {operands : List ℕ} → Strokes saved s e byte operands →
    spelling_pieces form (with_attributes s.drawing (attributes e)) e ≡ joinable_piece form byte operands ∷ [] → Kind form saved s e
stroke_kind form h h2 = grind (arith, stroke_draws)

line_kind : (form : Form) (saved : OperandLengths) (s : State) (from to : Coordinates) (ink : Ink) → IsInSquare from → IsInSquare to → Kind form saved s (Entry.Line from to ink)
line_kind Form.One saved s from to ink first second = stroke_kind Form.One (line_strokes saved s from to ink first second) refl
line_kind Form.Two saved s from to ink first second = grind (arith, stroke_kind, on_line_strokes, pen_is, line_strokes)

pub kind : (form : Form) (saved : OperandLengths) (s : State) (e : Entry) → InRange e → Fits s e → ModeZeroIsBase s.drawing.base s.drawing.colour → SavesLengths saved s.definition → Kind form saved s e
unfolding walk row_of control0_rows control1_rows opcode_rows left_out_opcode
kind form saved s (Entry.Point at pel colour) inside fits mode saves = stroke_kind form (point_strokes saved s at pel colour inside.0) refl
kind form saved s (Entry.Line from to ink) inside fits mode saves = line_kind form saved s from to ink inside.0 inside.1
kind form saved s (Entry.Rect filled from to ink) inside fits mode saves = stroke_kind form (rect_strokes saved s filled from to ink inside.0 inside.1) refl
kind form saved s (Entry.Arc filled [] ink) inside fits mode saves = absurd (omega (arith, fits.made.0))
kind form saved s (Entry.Arc filled (p ∷ []) ink) inside fits mode saves = absurd (omega (arith, fits.made.0))
kind form saved s (Entry.Arc filled (p ∷ q ∷ []) ink) inside fits mode saves = absurd (omega (arith, fits.made.0))
kind form saved s (Entry.Arc false (p ∷ q ∷ r ∷ rs) ink) inside fits mode saves =
    inr (shape_draws saved s (Entry.Arc false (p ∷ q ∷ r ∷ rs) ink) 0x2E Opcode.SetArcOutlined (arc_on false) arc_points p q (r ∷ rs) (refl, refl, tt, omega arith) (λ rest. tt) (λ run. refl) refl
    inside.0 fits.made.1 (arc_leads p q r rs))
kind form saved s (Entry.Arc true (p ∷ q ∷ r ∷ rs) ink) inside fits mode saves =
    inr (shape_draws saved s (Entry.Arc true (p ∷ q ∷ r ∷ rs) ink) 0x2F Opcode.SetArcFilled (arc_on true) arc_points p q (r ∷ rs) (refl, refl, tt, omega arith) (λ rest. tt) (λ run. refl) refl
    inside.0 fits.made.1 (arc_leads p q r rs))
kind form saved s (Entry.Poly filled [] ink) inside fits mode saves = absurd (omega (arith, fits.made.0))
kind form saved s (Entry.Poly filled (p ∷ []) ink) inside fits mode saves = absurd (omega (arith, fits.made.0))
kind form saved s (Entry.Poly false (p ∷ q ∷ qs) ink) inside fits mode saves =
    inr (shape_draws saved s (Entry.Poly false (p ∷ q ∷ qs) ink) 0x36 Opcode.SetPolyOutlined (poly_on false) poly_points p q qs (refl, refl, tt, omega arith) (λ rest. tt) (λ run. refl) refl
    inside.0 fits.made.1 (poly_leads p (q ∷ qs)))
kind form saved s (Entry.Poly true (p ∷ q ∷ qs) ink) inside fits mode saves =
    inr (shape_draws saved s (Entry.Poly true (p ∷ q ∷ qs) ink) 0x37 Opcode.SetPolyFilled (poly_on true) poly_points p q qs (refl, refl, tt, omega arith) (λ rest. tt) (λ run. refl) refl
    inside.0 fits.made.1 (poly_leads p (q ∷ qs)))
kind form saved s (Entry.Char set code hand) inside fits mode saves = inr (char_draws saved s hand set code fits.made)
kind form saved s (Entry.TextMove step hand) inside fits mode saves = inr (step_draws saved s hand step fits.made)
kind form saved s (Entry.ToEol hand) inside fits mode saves =
    inr (control_draws saved s (Entry.ToEol hand) 0x1B (0x47 ∷ []) Code.ToEol (omega arith) tt tt (λ gl. spells.control1 refl) (with_some s.last (Ok (entry_drawn saved s (Entry.ToEol hand))) fits.comes))
kind form saved s (Entry.Map a grb) inside fits mode saves = inr (map_draws saved s a grb inside.0 inside.1 mode fits.comes)
kind form saved s (Entry.Blink a on off delay colour) inside fits mode saves =
    let times : List ℕ = word_byte on ∷ word_byte off ∷ word_byte delay ∷ [] in
    let words = word_bytes on inside.1 (word_bytes off inside.2 (word_bytes delay inside.3 no_bytes)) in
    inr (opcode_draws saved s (Entry.Blink a on off delay colour) 0x3F Opcode.Blink (addr_bytes a ++ times) 7 (refl, refl, tt, omega arith) (both_bytes (address_operand a inside.0) words) (omega arith)
    (λ rest. tt) (blink_rule saved (holding s (Entry.Blink a on off delay colour)) a on off delay inside.0))
kind form saved s (Entry.BlinkEnd colour) inside fits mode saves =
    inr (opcode_draws saved s (Entry.BlinkEnd colour) 0x3F Opcode.Blink [] 0 (refl, refl, tt, omega arith) no_bytes (omega arith) (λ rest. tt) (rw (no_operands 7) refl))
kind form saved s (Entry.BlinkMark on colour) inside fits mode saves =
    inr (control_draws saved s (Entry.BlinkMark on colour) 0x1B ((if on then 0x4E else 0x5E) ∷ []) (Code.BlinkMark on) (omega arith) tt tt (λ gl. spells.control1 (mark_row on)) refl)
kind form saved s (Entry.Wait word) inside fits mode saves =
    inr (opcode_draws saved s (Entry.Wait word) 0x3D Opcode.Wait (word_byte word ∷ []) 1 (refl, refl, tt, omega arith) (word_bytes word inside no_bytes) (omega arith) (λ rest. tt)
    (rw (word_of word) refl))
kind form saved s Entry.Bell inside fits mode saves = inr (control_draws saved s Entry.Bell 0x07 [] Code.Bell (omega arith) tt tt (λ gl. spells.control0 refl (λ is. cc)) refl)
kind form saved s (Entry.Cursor which) inside fits mode saves =
    inr (control_draws saved s (Entry.Cursor which) 0x1B (cursor_byte which ∷ []) (Code.Cursor which) (omega arith) tt tt (λ gl. spells.control1 (cursor_row which)) refl)
kind form saved s (Entry.Field Area.Whole pen) inside fits mode saves =
    inr (opcode_draws saved s (Entry.Field Area.Whole pen) 0x38 Opcode.Field [] 0 (refl, refl, tt, omega arith) no_bytes (omega arith) (λ rest. tt) (rw no_moves refl))
kind form saved s (Entry.Field (Area.Part p q) pen) inside fits mode saves =
    let corner : IsInSquare p = inside.0.0 in
    let all : All IsInSquare (q ∷ []) = All-cons IsInSquare q [] inside.0.1 (All-nil IsInSquare) in
    inr (opcode_draws saved s (Entry.Field (Area.Part p q) pen) 0x38 Opcode.Field (shape_bytes (p ∷ q ∷ [])) 16 (refl, refl, tt, omega arith) (shape_operands p (q ∷ []) corner all) (omega arith) (λ rest. tt)
    (rw (corners_read p q corner inside.0.1, point_there p corner, (displacements_lead_there p q corner inside.0.1).1) refl))
kind form saved s (Entry.Reset first second pen) inside fits mode saves = inr (reset_draws saved s first second pen inside.0 inside.1)
kind form saved s (Entry.Clear pen) inside fits mode saves =
    inr (control_draws saved s (Entry.Clear pen) 0x0C [] Code.Clear (omega arith) tt tt (λ gl. spells.control0 refl (λ is. cc)) refl)
kind form saved s (Entry.GlyphStart byte) inside fits mode saves =
    inr (next (by_control 0x1B (0x43 ∷ byte ∷ []) (Code.DefGlyph byte) (opens saved s (Entry.GlyphStart byte)) (omega arith) tt tt (λ gl. spells.def_drcs (graphic byte fits.made)) (rw fits.comes refl)) no_pieces)
kind form saved s (Entry.MaskStart mask) inside fits mode saves =
    inr (next (by_control 0x1B (0x44 ∷ mask_byte mask ∷ []) (Code.DefMask mask) (opens saved s (Entry.MaskStart mask)) (omega arith) tt tt (λ gl. spells.def_texture (mask_row mask)) (rw fits.comes refl)) no_pieces)
kind form saved s Entry.DefEnd inside fits mode saves = inr (end_draws saved s s.definition refl fits.comes saves)

-- The pieces of an entry: its prelude, and its own spelling.

-- the attributes of an entry are in range

attributes_are_in_range : (e : Entry) → InRange e → AttributesInRange (attributes e)
attributes_are_in_range e inside = grind arith

-- the list may come from a state on
pub record MayCome (saved : OperandLengths) (s : State) (es : List Entry) : Type 0 where
  pub inside : AllInRange es
  pub fits : AllFit s es
  pub mode : IsInMode s
  pub saves : SavesLengths saved s.definition

module _ (saved : OperandLengths) (s : State) (e : Entry) (es : List Entry) (may : MayCome saved s (e ∷ es)) where
  first_fits : Fits s e
  unfolding AllFit
  first_fits = may.fits.0

  pub next_may : MayCome (saved_after saved e) (after s e) es
  unfolding AllFit
  next_may = record {
    inside = All-tail InRange e es may.inside;
    fits = may.fits.1;
    mode = in_mode_after s e may.mode may.fits.0;
    saves = saves_after saved s e may.saves;
  }

  pub first_kind : (form : Form) → Kind form saved s e
  first_kind form = kind form saved s e (All-head InRange e es may.inside) first_fits may.mode.drawing may.saves

  abbrev own_commands : List Command
  own_commands = prelude s.drawing (attributes e)

  pub led : Leads (AttributesInRange (attributes e)) own_commands s.drawing (with_attributes s.drawing (attributes e))
  led = prelude_sets s.drawing (attributes e) may.mode.drawing first_fits.values

  -- the prelude, and what comes after it
  pub prelude_after : (qs : List Piece) (ds : List Entry) (left : Work) → ConveyAll (work_with_attributes saved s e) qs ds left → ConveyAll (work_at saved s) (map command_piece own_commands ++ qs) ds left
  prelude_after qs ds left conveyed =
      commands_after saved s own_commands qs ds left (led.inside (attributes_are_in_range e (All-head InRange e es may.inside))) led.takes
      (subst (λ (d : Drawing). ConveyAll (work_at saved (record s { drawing = d })) qs ds left) (sym led.there) conveyed)

  pub prelude_conveys : ConveyAll (work_at saved s) (map command_piece own_commands) [] (work_with_attributes saved s e)
  prelude_conveys =
      subst (λ (ps : List Piece). ConveyAll (work_at saved s) ps [] (work_with_attributes saved s e)) (append-nil (map command_piece own_commands))
      (prelude_after [] [] (work_with_attributes saved s e) no_pieces)

  -- a group after the prelude
  pub group_parts : (form : Form) (byte : ℕ) (operands : List ℕ) (rest : List Piece) → spelling_pieces form (with_attributes s.drawing (attributes e)) e ≡ group byte operands ∷ [] →
      map command_piece own_commands ++ (group byte operands ∷ rest) ≡ entry_pieces form s e ++ rest
  group_parts form byte operands rest is = grind (arith, append_assoc)

  -- the first of the bytes of an entry, whatever comes after it

  module _ (form : Form) (t : TextEnd) (rest : List Piece) where
    pub entry_begins : (own_commands ≡ [] → Begins t (spelling_pieces form (with_attributes s.drawing (attributes e)) e ++ rest)) → Begins t (entry_pieces form s e ++ rest)
    entry_begins begins =
        let qs : List Piece = spelling_pieces form (with_attributes s.drawing (attributes e)) e in
        subst (Begins t) (sym (append_assoc (map command_piece own_commands) qs rest))
        (convey_begin t (qs ++ rest) (work_at saved s) (map command_piece own_commands) [] (work_with_attributes saved s e) prelude_conveys (λ none. begins (unmapped own_commands none)))
      where
        unmapped : (cs : List Command) → map command_piece cs ≡ [] → cs ≡ []
        unmapped [] none = refl
        unmapped (c ∷ cs) none = cc

    -- its group joins no run
    abbrev pub JoinsNone : Kind form saved s e → Type 0
    JoinsNone (inl by) = joins_open_run t by.byte (length by.operands) ≡ false
    JoinsNone (inr draws) = ⊤

    pub spelled_begins : (k : Kind form saved s e) → JoinsNone k → Begins t (spelling_pieces form (with_attributes s.drawing (attributes e)) e ++ rest)
    spelled_begins (inl by) none = subst (λ (qs : List Piece). Begins t (qs ++ rest)) (sym by.spelled_as) (none, by.strokes.is.3)
    spelled_begins (inr draws) none =
        let qs : List Piece = spelling_pieces form (with_attributes s.drawing (attributes e)) e in
        convey_begin t rest (work_with_attributes saved s e) qs (e ∷ []) (work_at (saved_after saved e) (after s e)) draws
        (λ empty. let bad : ⊥ = by_none (nothing_conveyed (work_with_attributes saved s e) qs (e ∷ []) (work_at (saved_after saved e) (after s e)) draws empty) in absurd bad)
      where
        by_none : e ∷ [] ≡ [] → ⊥
        by_none is = cc
