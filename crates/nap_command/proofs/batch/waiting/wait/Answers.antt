use Rattle.nap_command.proofs.{Consumes-nil, Consumes-trans, Ended, Err, FoundRequest, IsWhole, Ok, ReadStep, [], ap, append-nil, append_assoc, arith, err_from_is_err_and, inl, length-append, refl, rules, subst, sym, ◌++◌, ◌∙◌, ◌≡◌}
use Rattle.nap_command.specs.Requests.{NeverStarts}
use Rattle.nap_command.specs.Waiting.{IsLast}
use Rattle.nap_command.proofs.FrontLemmas.{finds_dropped, finds_end, finds_last, finds_now, longer, stays_within}
use Rattle.nap_command.proofs.batch.waiting.wait.Goals as goal

pub loop-reads-init : goal.loop-reads-init
loop-reads-init g c = record {
  scratch = c.requires;
  bytes = [];
  read = Consumes-nil (g.I.Inlet.left c.args.input.now);
  buffer = sym (append-nil c.args.buffer.now.bytes);
  some = omega arith;
  flag = refl;
  keeps = stays_within c.args.buffer.now.bytes refl;
}

pub loop-reads-preserved : goal.loop-reads-preserved
loop-reads-preserved g c =
    let inv = c.loop-reads.invariant in
    let is : c.in_ok-read_more-in-More.field-0 ≡ ReadStep.Longer = search rules in
    let h = rw is at c.in_ok-read_more-in-More.ensures.steps in
    let (buffer, some, works) = h.steps in
    record {
      scratch = c.in_ok-read_more-in-More.ensures.space;
      bytes = inv.bytes ++ h.bytes;
      read = Consumes-trans _ _ _ inv.bytes h.bytes inv.read h.read;
      buffer = buffer ∙ ap (λ bytes. bytes ++ h.bytes) inv.buffer ∙ append_assoc c.args.buffer.now.bytes inv.bytes h.bytes;
      some = omega (arith, inv.some, some, length-append inv.bytes h.bytes);
      flag = works ∙ inv.flag;
      keeps = longer g.I.Inlet c.args.buffer.now _ inv.bytes c.args.input.now _ inv.read inv.buffer inv.flag inv.keeps _ _ h;
    }

pub returns-in-Whole-clause-found : goal.returns-in-Whole-clause-found
returns-in-Whole-clause-found g c =
    let inv = c.loop-reads.invariant in
    let whole = subst (λ bytes. IsWhole bytes c.in-Whole.line c.in-Whole.start) (c.bytes.ensures ∙ inv.buffer) c.in-Whole.ensures in
    finds_now g.I.Inlet _ _ inv.bytes _ _ inv.read inv.buffer inv.flag inv.keeps (Ok (FoundRequest.Whole c.in-Whole.line c.in-Whole.start)) (inv.buffer, whole, inv.flag)

pub returns-in-Wrong-clause-found : goal.returns-in-Wrong-clause-found
returns-in-Wrong-clause-found g c =
    let inv = c.loop-reads.invariant in
    finds_now g.I.Inlet _ _ inv.bytes _ _ inv.read inv.buffer inv.flag inv.keeps (Err Ended.Request) (inl (subst NeverStarts (c.bytes.ensures ∙ inv.buffer) c.in-Wrong.ensures), inv.flag)

pub returns-in_err-read_more-in-More-clause-found : goal.returns-in_err-read_more-in-More-clause-found
returns-in_err-read_more-in-More-clause-found g c =
    let inv = c.loop-reads.invariant in
    let e = err_from_is_err_and c.from_residual.result c.from_residual.ensures.1 in
    rw (e.1, e.2) (finds_end g.I.Inlet _ _ inv.bytes _ _ inv.read inv.buffer inv.flag inv.keeps _ _ _ c.in_err-read_more-in-More.ensures.steps)

pub returns-then-eq-clause-found : goal.returns-then-eq-clause-found
returns-then-eq-clause-found g c =
    let inv = c.loop-reads.invariant in
    let is : c.in_ok-read_more-in-More.field-0 ≡ ReadStep.Dropped = search rules in
    finds_dropped g.I.Inlet _ _ inv.bytes _ _ inv.read inv.buffer inv.flag inv.keeps _ _ (rw is at c.in_ok-read_more-in-More.ensures.steps)

pub returns-clause-found : goal.returns-clause-found
returns-clause-found g c =
    let inv = c.loop-reads.invariant in
    finds_last g.I.Inlet _ _ inv.bytes _ _ inv.read inv.buffer inv.flag inv.keeps c.final_front.result (omega (arith, inv.some, c.loop-reads-test.false))
    (subst (λ bytes. IsLast bytes c.final_front.result) c.bytes-2.ensures c.final_front.ensures)
