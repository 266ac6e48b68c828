use Rattle.nap_cli.proofs.{IfOk-weaker, ap₂, app_of, codes, flag_rule, new_app, with_rule, ◌||◌, ◌∙◌, ◌≡◌}
use Rattle.nap_cli.proofs.words.subcommand.Goals as goal

pub returns-clause-app : goal.returns-clause-app
returns-clause-app c =
    let first_is : app_of c.in_ok-arg.field-0 ≡ with_rule (new_app c.args.name.now) (flag_rule (codes "hex")) = c.in_ok-arg.ensures.shape c.flag.ensures.local ∙ ap₂ with_rule c.described.ensures.app c.flag.ensures.rule in
    IfOk-weaker c.arg-2.result _ _ (λ r h. h.shape c.budget_option.ensures.local ∙ ap₂ with_rule first_is c.budget_option.ensures.rule) c.arg-2.ensures

pub returns-clause-local : goal.returns-clause-local
returns-clause-local c =
    let first_is = c.in_ok-arg.ensures.globals ∙ ap₂ (λ x y. x || y) c.described.ensures.local c.flag.ensures.local in
    IfOk-weaker c.arg-2.result _ _ (λ r h. h.globals ∙ ap₂ (λ x y. x || y) first_is c.budget_option.ensures.local) c.arg-2.ensures
