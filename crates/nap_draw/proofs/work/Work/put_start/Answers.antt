use Rattle.nap_draw.proofs.{Entry, Err, List, PutsList, PutsSoFar, Results.with_end, [], arith, definition_start, err_from_is_err_and, one_goes, one_put, one_stops, put_begins, refl, rest_put, sink_model_of, subst, ◌∷◌}
use Rattle.nap_draw.proofs.work.Work.put_start.Goals as goal

pub returns-in_err-put : goal.returns-in_err-put
returns-in_err-put g c =
    let laws = g.met.S.Sink in
    let s = c.args.sink.now in
    let start = c.definition_start-start.result in
    let whole : List Entry = Entry.DefEnd ∷ start ∷ [] in
    let is = with_end c.args.self.now start (definition_start c.args.what) c.if-is_none.ensures c.definition_start-start.ensures in
    let fault = err_from_is_err_and c.from_residual.result c.from_residual.ensures.1 in
    rw (fault.1, fault.2) (subst (λ (list : List Entry). PutsList {A = Unit {0}} g.S.Sink list s c.put-2.new.self (Err c.in_err-put.field-0.0)) is
    (one_stops (sink_model_of g.S.Sink) (Unit {0}) s s whole whole (put_begins (sink_model_of g.S.Sink) s whole (laws.took_none s)) (laws.took_none s) laws.took_more laws.took_broke laws.wants_more c.put-2.new.self Entry.DefEnd (start ∷ []) _ refl
    (grind arith)))

pub returns : goal.returns
returns g c =
    let laws = g.met.S.Sink in
    let s = c.args.sink.now in
    let t = c.put-2.new.self in
    let start = c.definition_start-start.result in
    let whole : List Entry = Entry.DefEnd ∷ start ∷ [] in
    let first = c.in_ok-put.ensures in
    let put = c.put-3.ensures in
    let is = with_end c.args.self.now start (definition_start c.args.what) c.if-is_none.ensures c.definition_start-start.ensures in
    let begun : PutsSoFar g.S.Sink s t whole (start ∷ []) =
    one_goes (sink_model_of g.S.Sink) s s whole whole (put_begins (sink_model_of g.S.Sink) s whole (laws.took_none s)) laws.took_more t Entry.DefEnd (start ∷ []) refl first.took first.after first.only_write first.refuses in
    subst (λ (list : List Entry). PutsList g.S.Sink list s c.put-3.new.self c.put-3.result) is
    (rest_put (sink_model_of g.S.Sink) (Unit {0}) s t whole (start ∷ []) begun laws.took_more laws.took_broke laws.wants_more c.put-3.new.self c.put-3.result
    (one_put (sink_model_of g.S.Sink) t c.put-3.new.self start c.put-3.result (laws.took_none t) put.took put.after put.memory put.wants put.refuses put.write put.only_write put.broke put.still))
