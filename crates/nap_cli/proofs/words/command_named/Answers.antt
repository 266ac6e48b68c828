use Rattle.nap_cli.proofs.{IsBudget, codes, false, found_of, one_text-rows, refl, subst, sym, ◌∙◌}
use Rattle.nap_cli.proofs.CommandLineLemmas.{flag_read, flag_unread, number_read, number_unread, number_same, true_or_false}
use Rattle.nap_cli.proofs.words.command_named.Goals as goal

pub returns-in_err-get_one : goal.returns-in_err-get_one
returns-in_err-get_one c =
    let is = one_text-rows (found_of c.args.options.now) (codes "hex") in
    rw c.from_residual-in_err-get_one.ensures (λ k named chosen. flag_unread _ c.in_err-get_one.ensures.value k.hex (is ∙ chosen.hex))

pub returns-in_err-get_one-2 : goal.returns-in_err-get_one-2
returns-in_err-get_one-2 c =
    let is = one_text-rows (found_of c.args.options.now) (codes "budget") in
    rw c.from_residual-in_err-get_one-2.ensures (λ k named chosen.
    number_unread _ (λ t e. let h = c.in_err-get_one-2.ensures.value t e in (h.0, h.1.0)) chosen.number k.budget (is ∙ chosen.found) chosen.budget)

pub returns-in_err-new : goal.returns-in_err-new
returns-in_err-new c =
    let is = one_text-rows (found_of c.args.options.now) (codes "budget") in
    rw c.from_residual-in_err-new.ensures (λ k named chosen.
    let most = number_same _ _ (λ t e. (c.in_ok-get_one-2.ensures.value t e).0) chosen.number k.budget (is ∙ chosen.found) chosen.budget in
    true_or_false false refl (c.in_err-new.ensures.found.1 most))

pub returns : goal.returns
returns c =
    let hex = one_text-rows (found_of c.args.options.now) (codes "hex") in
    let budget = one_text-rows (found_of c.args.options.now) (codes "budget") in
    let number = number_read _ _ c.in_ok-get_one-2.ensures.none (λ t e. (c.in_ok-get_one-2.ensures.value t e).0) (c.in_ok-new.ensures.found.0 refl) in (
      c.in_ok-action.ensures,
      record {
        hex = sym hex ∙ flag_read _ c.in_ok-get_one.field-0 c.in_ok-get_one.ensures.none c.in_ok-get_one.ensures.value;
        number = number.0;
        found = sym budget ∙ number.1;
        budget = subst (IsBudget number.0) (sym c.in_ok-new.ensures.value) number.2;
        stream = c.in_ok-streams.ensures;
      },
    )
