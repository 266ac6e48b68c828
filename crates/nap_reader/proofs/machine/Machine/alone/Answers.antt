use Rattle.nap_reader.proofs.{All, All-head, CharSet, Lexes, List, None, Option, Some, TextStep, AreCharacters, IsTextByte, alone_acts, alone_stops, ap, are_typed, arith, code_as, first_byte, format_effector, lexes_alone, refl, slice_get, subst, sym, ℕ, [], ◌++◌, ◌∙◌, ◌∷◌, ◌≡◌, Code}
use Rattle.nap_codes.specs.Front as codes
use Rattle.nap_codes.specs.Lexer.{LexerState}
use Rattle.nap_reader.proofs.machine.Machine.alone.Goals as goal
use Rattle.nap_reader.proofs.machine.Machine.alone.Goals.{In_default-format_effector}

first : (text following : List ℕ) (b : ℕ) → slice_get text 0 ≡ Some b → slice_get (text ++ following) 0 ≡ Some b
first text following b is = rw (first_byte text b is).1

-- the code that the first byte of a text is
code_is : (lexer : LexerState) (set : CharSet) (text : List ℕ) (b : ℕ) (step : Option TextStep) → AreCharacters lexer set → All IsTextByte text → slice_get text 0 ≡ Some b → format_effector b ≡ step →
    codes.front lexer.sets (b ∷ []) ≡ codes.complete (code_as step set b) 1 lexer.sets
code_is lexer set text b step are typed is named =
    let (rest, begins) = first_byte text b is in
    are_typed lexer.sets set are.chars b (All-head IsTextByte b rest (subst (All IsTextByte) begins typed)) ∙ ap (λ (step : Option TextStep). codes.complete (code_as step set b) 1 lexer.sets) named

pub single-requires-clause-is : goal.single-requires-clause-is
single-requires-clause-is g c =
    code_is c.args.self.now.lexer c.args.set c.args.text.now c.in-Some.byte.now (Some c.in-Some-format_effector.step) c.requires.set c.requires.typed (sym c.in-Some.ensures.value) (sym c.format_effector.ensures ∙ c.in-Some-format_effector.is)

pub returns-in-Some-format_effector : goal.returns-in-Some-format_effector
returns-in-Some-format_effector g c = λ ended following.
    rw (first_byte c.args.text.now c.in-Some.byte.now (sym c.in-Some.ensures.value)).1 (c.single.ensures ended _)

-- The byte is a character.
character : (g : _) (c : In_default-format_effector g) → Lexes c.args.self.now c.in-Some.byte.now (Code.Char c.args.set c.in-Some.byte.now) c.args.self.now.lexer.sets
character g c = lexes_alone c.requires.closed c.requires.set.rested (code_is c.args.self.now.lexer c.args.set c.args.text.now c.in-Some.byte.now None c.requires.set c.requires.typed (sym c.in-Some.ensures.value) (sym c.in_default-format_effector.ensures))

pub returns-in-Ok : goal.returns-in-Ok
returns-in-Ok g c = λ ended following.
    let acted = c.in-Ok.ensures.acts in
    let begins = first c.args.text.now following c.in-Some.byte.now (sym c.in-Some.ensures.value) in
    alone_acts begins (character g (goal.at.returns-in-Ok g c).In_default-format_effector) (grind arith) refl {entries = acted.0} (grind arith) (grind arith) g.met.S.Sink.took_more g.met.S.Sink.wants_more

pub returns-in-Err : goal.returns-in-Err
returns-in-Err g c = λ ended following.
    let begins = first c.args.text.now following c.in-Some.byte.now (sym c.in-Some.ensures.value) in
    rw c.from.ensures (alone_stops begins (character g (goal.at.returns-in-Err g c).In_default-format_effector) {fault = c.in-Err.fault} refl refl (grind arith) (grind arith))
