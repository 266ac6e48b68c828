use Rattle.nap_codes.proofs.{IsOpcode, LexerLemmas.none_above, LexerLemmas.none_below, LexerLemmas.opcode_alone, lexer.Lexer.opcode.Goals.then-byte-lt32-via-else-byte-lt32+then-byte-ge64, lexer.Lexer.opcode.Goals.then-byte-lt32-via-then-byte-lt32, rules}
use Rattle.nap_codes.proofs.lexer.Lexer.opcode.Goals as goal

pub returns-then-byte-lt32-clause-is : goal.returns-then-byte-lt32-clause-is
returns-then-byte-lt32-clause-is c op =
    elim c.then-byte-lt32.branch [
      | then-byte-lt32-via-then-byte-lt32 w ↦ none_below c.args.self.now _ op w.if-byte-lt32.true
      | then-byte-lt32-via-else-byte-lt32+then-byte-ge64 w ↦ none_above c.args.self.now _ op w.if-byte-ge64.true
    ]

pub returns-in-None-clause-front : goal.returns-in-None-clause-front
returns-in-None-clause-front c =
    let is : IsOpcode c.args.self.now c.args.byte c.in_ok-op.op = search rules in
    opcode_alone c.args.self.now c.args.byte c.in_ok-op.op is
