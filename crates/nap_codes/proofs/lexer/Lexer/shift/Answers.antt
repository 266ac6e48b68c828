use Rattle.nap_codes.proofs.{G0, G1, LexerLemmas.same_lexer, TableLemmas.shift_in_steps, TableLemmas.shift_out_steps, [], ap, half_read_bytes, rules, ◌∙◌, ◌≡◌}
use Rattle.nap_codes.proofs.lexer.Lexer.shift.Goals as goal

pub returns-then-byte-eq14 : goal.returns-then-byte-eq14
returns-then-byte-eq14 c =
    let lexer = c.args.self.now in
    let half : half_read_bytes c.self.inside.half ≡ [] = ap (λ l. l.half) c.self.view_is ∙ c.requires.0 in
    shift_out_steps lexer _ _ c.requires.0 (search rules)
    (same_lexer (ap (λ l. record l.sets { gl = G1 }) c.self.view_is) half)

pub returns-else-byte-eq14 : goal.returns-else-byte-eq14
returns-else-byte-eq14 c =
    let lexer = c.args.self.now in
    let half : half_read_bytes c.self.inside.half ≡ [] = ap (λ l. l.half) c.self.view_is ∙ c.requires.0 in
    shift_in_steps lexer _ _ c.requires.0 (search rules)
    (same_lexer (ap (λ l. record l.sets { gl = G0 }) c.self.view_is) half)
