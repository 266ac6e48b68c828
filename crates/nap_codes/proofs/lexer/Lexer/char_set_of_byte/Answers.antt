use Rattle.nap_codes.proofs.{IsGraphic, LexerLemmas.all_alike, LexerLemmas.none_beyond, arith}
use Rattle.nap_codes.proofs.lexer.Lexer.char_set_of_byte.Goals.{then-byte-lt32-via-else-byte-lt32+then-byte-ge128, then-byte-lt32-via-then-byte-lt32}
use Rattle.nap_codes.proofs.lexer.Lexer.char_set_of_byte.Goals as goal

pub returns-then-byte-lt32 : goal.returns-then-byte-lt32
returns-then-byte-lt32 c set =
    elim c.then-byte-lt32.branch [
      | then-byte-lt32-via-then-byte-lt32 w ↦ none_beyond c.args.self.now c.args.byte set (λ range. omega (arith))
      | then-byte-lt32-via-else-byte-lt32+then-byte-ge128 w ↦ none_beyond c.args.self.now c.args.byte set (λ range. omega (arith))
    ]

pub returns : goal.returns
returns c set =
    let found = c.char_set.ensures set in
    let range : IsGraphic c.args.byte = (omega arith, omega arith) in
    (λ e. found.0 e _ range, λ k. found.1 (all_alike _ _ set range k))
