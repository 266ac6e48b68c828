use Rattle.nap_cli.proofs.{App, IfOk-weaker, ap, app_of, app_of_fields, ap₂, codes, command_app, make_app, new_app, page_commands, program_app, string_bytes, true, with_subcommand, ◌∙◌, ◌≡◌}
use Rattle.nap_cli.proofs.words.program.Goals as goal

-- there is a version, a command is required, and its name comes first
abbrev with_version : App → App
with_version a = record a { top = record a.top { has_version = true } }

abbrev with_command : App → App
with_command a = record a { top = record a.top { no_binary_name = true; subcommand_required = true } }

pub returns : goal.returns
returns c =
    let usual = string_bytes c.args.texts.now.usual in
    let named : app_of c.in_ok-bin_name.field-0 ≡ new_app (codes "naplps") = ap app_of_fields c.in_ok-bin_name.ensures.0 ∙ c.described.ensures.app in
    let versioned : app_of c.version.result ≡ with_version (new_app (codes "naplps")) = ap app_of_fields c.version.ensures ∙ ap with_version named in
    let start_is : app_of c.subcommand_required.result ≡ program_app =
    ap app_of_fields c.subcommand_required.ensures ∙ (ap (λ f. app_of_fields (record f { subcommand_required = true })) c.no_binary_name.ensures ∙ ap with_command versioned) in
    let one : app_of c.in_ok-subcommand-2.field-0 ≡ with_subcommand program_app (command_app usual (codes "list")).top =
    c.in_ok-subcommand-2.ensures.shape c.in_ok-subcommand.ensures.local ∙ ap₂ with_subcommand start_is (ap (λ (a : App). a.top) c.in_ok-subcommand.ensures.app) in
    let two : app_of c.in_ok-subcommand-4.field-0 ≡ with_subcommand (with_subcommand program_app (command_app usual (codes "list")).top) (command_app usual (codes "check")).top =
    c.in_ok-subcommand-4.ensures.shape c.in_ok-subcommand-3.ensures.local ∙ ap₂ with_subcommand one (ap (λ (a : App). a.top) c.in_ok-subcommand-3.ensures.app) in
    let three : app_of c.in_ok-subcommand-5.field-0 ≡ page_commands usual =
    c.in_ok-subcommand-5.ensures.shape c.in_ok-canon_command.ensures.local ∙ ap₂ with_subcommand two (ap (λ (a : App). a.top) c.in_ok-canon_command.ensures.app) in
    let four : app_of c.in_ok-subcommand-6.field-0 ≡ with_subcommand (page_commands usual) make_app.top =
    c.in_ok-subcommand-6.ensures.shape c.in_ok-make_command.ensures.1 ∙ ap₂ with_subcommand three (ap (λ (a : App). a.top) c.in_ok-make_command.ensures.0) in
    IfOk-weaker c.subcommand-7.result _ _ (λ r h. h.shape c.described-2.ensures.local ∙ ap₂ with_subcommand four (ap (λ (a : App). a.top) c.described-2.ensures.app)) c.subcommand-7.ensures
