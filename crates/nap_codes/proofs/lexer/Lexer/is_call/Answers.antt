use Rattle.nap_codes.proofs.{IsCall, LexerLemmas.call_front, rules}
use Rattle.nap_codes.proofs.lexer.Lexer.is_call.Goals as goal

pub returns-then-byte-lt128-clause-front : goal.returns-then-byte-lt128-clause-front
returns-then-byte-lt128-clause-front c is =
    let calls : IsCall c.args.self.now c.args.byte = search rules in
    call_front _ _ calls
