use Rattle.nap_c.proofs.{Check, HasChecked, [], inl, refl, subst, sym}
use Rattle.nap_c.proofs.pieces.naplps_check_begin.Goals as goal

-- a page is begun
pub returns-in-Ok : goal.returns-in-Ok
returns-in-Ok c =
    let has_checked = subst (λ b. HasChecked c.new-2.result b []) c.in-Some.ensures.value c.new-2.ensures in
    inl (
      c.in-Some.ensures.found.0 refl,
      inl (record {
        check = c.in-Ok.check.value;
        begun = c.put.ensures;
        has_checked = subst (λ k. HasChecked k c.args.budget []) (sym c.in-Ok.ensures.ok) has_checked;
        answer = c.accepted_answer.ensures;
      }),
    )
