use Rattle.nap_codes.proofs.{CodeSets, LexerLemmas.next_is, LexerLemmas.next_keeps, LexerState, [], ap, half_read_bytes, refl, rules, set_at, sym, ◌∙◌, ◌∷◌, ◌≡◌}
use Rattle.nap_codes.proofs.lexer.Lexer.next.Goals as goal

pub invariant_of-self-in_default-code : goal.invariant_of-self-in_default-code
invariant_of-self-in_default-code c =
    let lexer = c.args.self.now in
    let sets : c.self.inside.sets ≡ lexer.sets = ap (λ (l : LexerState). l.sets) c.self.view_is in
    let is : c.args.bytes.now ≡ c.in-Some.byte.now ∷ c.in-Some.rest.now = search rules in
    let kept : c.next_control-code.new.sets ≡ lexer.sets =
    next_keeps lexer.sets _ c.args.bytes.now _ c.in_default-code.not-Nothing (rw (sets, sym is) at c.next_control-code.ensures) in
    (c.self.invariant.0, c.self.invariant.1 ∙ ap (λ (s : CodeSets). set_at s s.gl) (sets ∙ sym kept))

pub returns-in_default-code : goal.returns-in_default-code
returns-in_default-code c =
    let lexer = c.args.self.now in
    let sets : c.self.inside.sets ≡ lexer.sets = ap (λ (l : LexerState). l.sets) c.self.view_is in
    let rests : lexer.half ≡ [] = c.if-not-at_rest.ensures.rests.0 refl in
    let half : half_read_bytes c.self.inside.half ≡ [] = ap (λ (l : LexerState). l.half) c.self.view_is ∙ rests in
    let is : c.args.bytes.now ≡ c.in-Some.byte.now ∷ c.in-Some.rest.now = search rules in
    next_is lexer _ c.args.bytes.now _ rests half (rw (sets, sym is) at c.next_control-code.ensures)
