use Rattle.nap_codes.proofs.{CodeSets, Escape, LexerState, NextCode, [], ap, half_read_bytes, refl, rules, set_at, sym, ◌∙◌, ◌∷◌, ◌≡◌}
use Rattle.nap_codes.proofs.LexerLemmas.{front_of_escape, next_keeps, rest_is, same_lexer}
use Rattle.nap_codes.proofs.lexer.Lexer.next_after_escape.Goals as goal

pub invariant_of-self : goal.invariant_of-self
invariant_of-self c =
    let sets = c.self.inside.sets in
    let other : c.after_escape-next.result ≡ NextCode.Other = c.in-Other.is in
    let kept : c.after_escape-next.new.sets ≡ sets =
    next_keeps sets _ (0x1B ∷ c.args.bytes.now) c.after_escape-next.result (λ n nothing. cc) (front_of_escape sets _ c.args.bytes.now _ c.after_escape-next.ensures) in
    (c.self.invariant.0, c.self.invariant.1 ∙ ap (λ (s : CodeSets). set_at s s.gl) (sym kept))

pub returns-in-Other : goal.returns-in-Other
returns-in-Other c =
    let sets = c.self.inside.sets in
    let other : c.after_escape-next.result ≡ NextCode.Other = c.in-Other.is in
    let kept : c.after_escape-next.new.sets ≡ sets =
    next_keeps sets _ (0x1B ∷ c.args.bytes.now) c.after_escape-next.result (λ n nothing. cc) (front_of_escape sets _ c.args.bytes.now _ c.after_escape-next.ensures) in
    rw other (same_lexer (kept ∙ ap (λ (l : LexerState). l.sets) c.self.view_is) (ap (λ (l : LexerState). l.half) c.self.view_is))

pub returns : goal.returns
returns c =
    let lexer = c.args.self.now in
    let sets : c.self.inside.sets ≡ lexer.sets = ap (λ l. l.sets) c.self.view_is in
    let escape : c.self.inside.half ≡ Escape = search rules in
    let half : lexer.half ≡ 0x1B ∷ [] = sym (ap (λ l. l.half) c.self.view_is) ∙ ap half_read_bytes escape in
    rest_is lexer _ _ _ half refl c.in_default.not-Other
    (front_of_escape _ _ _ _ (rw sets at c.after_escape-next.ensures))
