use Rattle.nap_draw.proofs.{Entry, Execution.obeys_put, Execution.obeys_stop, Hand, Ok, Walks.char_left, [], ap, arith, rule_result, sym, walk, ◌∷◌}
use Rattle.nap_draw.proofs.work.Work.character.Goals as goal

pub returns-in_err-put : goal.returns-in_err-put
returns-in_err-put g c =
    let by = ap (λ (hand : Hand). Ok (rule_result c.args.self.now (Entry.Char c.args.set c.args.code hand ∷ []))) (sym c.hand-hand.ensures) in
    obeys_stop _ c.from_residual.ensures.1 (g.met.S.Sink.took_none _) g.met.S.Sink.wants_more by (λ none. cc) c.in_err-put.ensures

pub returns : goal.returns
unfolding walk
returns g c = grind (arith, char_left, obeys_put)
