use Rattle.nap_codes.proofs.{LexerLemmas.all_amid, LexerLemmas.all_in_gl, ap, char_set_of, refl, set_at, ◌∙◌, ◌≡◌}
use Rattle.nap_codes.proofs.lexer.Lexer.char_set.Goals as goal

pub returns-then-not-at_rest : goal.returns-then-not-at_rest
returns-then-not-at_rest c set = all_amid _ set (λ e. let bad = c.if-not-at_rest.ensures.rests.1 e in cc)

pub returns : goal.returns
returns c set =
    let lexer = c.args.self.now in
    let sets : c.self.inside.sets ≡ lexer.sets = ap (λ l. l.sets) c.self.view_is in
    let here : c.char_set.result ≡ char_set_of (set_at lexer.sets lexer.sets.gl) =
    c.char_set.ensures ∙ ap char_set_of c.self.invariant.1 ∙ ap (λ s. char_set_of (set_at s s.gl)) sets in
    rw here (all_in_gl lexer set (c.if-not-at_rest.ensures.rests.0 refl))
