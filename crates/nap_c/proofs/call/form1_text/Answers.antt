use Rattle.nap_c.proofs.{Err, accepted_is_legal, ap, subst, sym, ◌∙◌}
use Rattle.nap_list.specs.State.{Legal}
use Rattle.nap_list.proofs.PublicLaws.{legal_never_breaks}
use Rattle.nap_c.proofs.call.form1_text.Goals as goal

-- the list of an accepted page is legal
pub unreachable-requires : goal.unreachable-requires
unreachable-requires c =
    let same = c.deref.ensures.value ∙ c.in_ok-list.ensures.list in
    let legal = subst Legal (sym same) (accepted_is_legal c.args.budget c.args.page.now c.in_ok-list.ensures.accepted) in
    let i = c.in-Err-Illegal.field-0-0 in
    legal_never_breaks c.deref.result.now i legal ((c.in-Err-Illegal.ensures.illegal i).0 (ap Err c.in-Err-Illegal.field-0-is))
