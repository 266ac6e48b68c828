use Rattle.std.specs.Prelude.{Err, List, None, Ok, Option, Result, Some, [], false, suc, zero, ℕ, ⊤, ◌++◌, ◌∷◌}
use Rattle.nap_draw.specs.Names.{CharSet, CharSize, Code, Drawing, Entry, IsCode, LastChar, OpenDefinition, State, StepMade, TextLook, TextStep, after, format_effector, hand_of, text_entry, walk}
use Rattle.nap_draw.specs.{declared.work.Work.Work, declared.fault.DrawFault.DrawFault, Rule.RuleResult, Rule.rule_result, Rule.with_drawing}

-- The rules of characters and controls (PROFILE.md, Characters and controls).

-- a character with the current attributes
abbrev pub char_on : Drawing → LastChar → Entry
char_on d last = Entry.Char last.set last.code (hand_of d)

-- copies of a character: the first with the attributes of this state, each further one with those that the copy before
-- it leaves
unfoldable pub repeated_chars : State → LastChar → ℕ → List Entry
repeated_chars s last zero = []
repeated_chars s last (suc n) = char_on s.drawing last ∷ repeated_chars (after s (char_on s.drawing last)) last n

-- the entries of the bytes of a text: each with the attributes of the state that the one before it leaves
unfoldable pub drawn_text : State → CharSet → List ℕ → List Entry
drawn_text s set [] = []
drawn_text s set (code ∷ codes) = text_entry set (hand_of s.drawing) code ∷ drawn_text (after s (text_entry set (hand_of s.drawing) code)) set codes

-- the code that a byte of a text is: a format effector of one byte, else a character of the set
abbrev pub code_as : Option TextStep → CharSet → ℕ → Code
code_as (Some step) set code = Code.Step step
code_as None set code = Code.Char set code

abbrev pub text_code : CharSet → ℕ → Code
text_code set code = code_as (format_effector code) set code

-- the result of a code that adds one entry
abbrev pub one_entry_result : Work → Entry → Result RuleResult DrawFault
one_entry_result work e = Ok (rule_result work (e ∷ []))

-- the result of a code that sets the text attributes
abbrev pub look_result : Work → TextLook → Result RuleResult DrawFault
look_result work look = Ok (rule_result (with_drawing work (record work.state.drawing { text = look })) [])

-- the result of a code that needs the last entry to be a character, or NothingToRepeat
abbrev pub with_last : Option LastChar → (LastChar → Result RuleResult DrawFault) → Result RuleResult DrawFault
with_last None next = Err DrawFault.NothingToRepeat
with_last (Some last) next = next last

-- the result of ending the open definition, if there is one: the saved attributes and operand lengths are restored
abbrev pub definition_ended_by : Work → Option OpenDefinition → RuleResult
definition_ended_by work None = rule_result work []
definition_ended_by work (Some opened) = record {
  entries = Entry.DefEnd ∷ [];
  work = record work { domain = work.saved; state = walk work.state (Entry.DefEnd ∷ []) };
  clears = false;
}

abbrev pub definition_ended : Work → RuleResult
definition_ended work = definition_ended_by work work.state.definition

-- the result with a definition opened after it: the attributes and operand lengths are saved
abbrev pub definition_opened : RuleResult → Entry → RuleResult
definition_opened d e = record {
  entries = d.entries ++ e ∷ [];
  work = record d.work { saved = d.work.domain; state = walk d.work.state (e ∷ []) };
  clears = false;
}

abbrev pub definition_result : Work → Entry → Result RuleResult DrawFault
definition_result work e = Ok (definition_opened (definition_ended work) e)

-- the rule of each character and control; other codes change nothing (PROFILE.md, Characters and controls)
abbrev pub code_rule : Work → Code → Result RuleResult DrawFault
code_rule work (Code.Char set code) = one_entry_result work (char_on work.state.drawing (record { set = set; code = code }))
code_rule work (Code.Step step) = one_entry_result work (Entry.TextMove step (hand_of work.state.drawing))
code_rule work Code.Clear = one_entry_result work (Entry.Clear work.state.drawing.pen)
code_rule work Code.Bell = one_entry_result work Entry.Bell
code_rule work (Code.Repeat count) = with_last work.state.last (λ last. Ok (rule_result work (repeated_chars work.state last count)))
code_rule work Code.ToEol = with_last work.state.last (λ last. one_entry_result work (Entry.ToEol (hand_of work.state.drawing)))
code_rule work (Code.BlinkMark on) = one_entry_result work (Entry.BlinkMark on work.state.drawing.colour)
code_rule work (Code.Cursor kind) = one_entry_result work (Entry.Cursor kind)
code_rule work (Code.Named size) = look_result work (record work.state.drawing.text { size = CharSize.Named size })
code_rule work (Code.Reverse on) = look_result work (record work.state.drawing.text { reverse = on })
code_rule work (Code.Underline on) = look_result work (record work.state.drawing.text { underline = on })
code_rule work (Code.Wrap on) = look_result work (record work.state.drawing.text { wrap = on })
code_rule work (Code.Scroll on) = look_result work (record work.state.drawing.text { scroll = on })
code_rule work (Code.DefGlyph code) = definition_result work (Entry.GlyphStart code)
code_rule work (Code.DefMask mask) = definition_result work (Entry.MaskStart mask)
code_rule work (Code.DefMacro name show) = Ok (definition_ended work)
code_rule work Code.End = Ok (definition_ended work)
code_rule work _ = Ok (rule_result work [])

-- the code of a character and both bytes of APS are from 20 to 7F
abbrev pub IsMade : Code → Type 0
IsMade (Code.Char set code) = IsCode code
IsMade (Code.DefGlyph code) = IsCode code
IsMade (Code.Step step) = StepMade step
IsMade _ = ⊤

-- the code puts an entry of its own, which isn't a character
abbrev pub PutsOwnEntry : Code → Type 0
PutsOwnEntry Code.Clear = ⊤
PutsOwnEntry Code.Bell = ⊤
PutsOwnEntry (Code.BlinkMark on) = ⊤
PutsOwnEntry (Code.Cursor kind) = ⊤
PutsOwnEntry _ = ⊥
