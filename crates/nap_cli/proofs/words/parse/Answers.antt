use Rattle.nap_cli.proofs.{HasKind, HasMatchesOf, [], ap, app_of, command_line, command_line_by, err_from_is_err_and, fault_of, found_of, is_simple_and_free, map, rows_of, string_bytes, subst, sym, words.parse.Goals.in-None, words.parse.Goals.in-Some, ◌∙◌, ◌≡◌}
use Rattle.std.proofs.lemmas.Option.{none-some}
use Rattle.nap_cli.proofs.CommandLineLemmas.{entered_none, fault_found, line_is_free, no_job_said, nothing_entered, says_job, says_nothing}
use Rattle.nap_cli.proofs.words.parse.Goals as goal

pub returns-in_err-matches-clause-fault : goal.returns-in_err-matches-clause-fault
returns-in_err-matches-clause-fault c =
    let line : app_of c.in_ok-program.program ≡ command_line = c.in_ok-program.ensures ∙ ap command_line_by c.in_ok-texts.ensures in
    let words = map string_bytes c.args.words.now in
    let e = c.in_err-matches.field-0.0 in
    let kinds = subst (λ a. HasKind (fault_of a words) e) line (c.in_err-matches.ensures.kinds (ap is_simple_and_free line ∙ line_is_free)) in
    let p = err_from_is_err_and c.from_residual-in_err-matches.result c.from_residual-in_err-matches.ensures.1 in
    rw (p.1, p.2) (fault_found words e kinds)

pub returns-in-Some-said-clause-said : goal.returns-in-Some-said-clause-said
returns-in-Some-said-clause-said c =
    let line : app_of c.in_ok-program.program ≡ command_line = c.in_ok-program.ensures ∙ ap command_line_by c.in_ok-texts.ensures in
    let words = map string_bytes c.args.words.now in
    let m = c.in_ok-matches.matches in
    let has = subst (λ a. HasMatchesOf a words m) line c.in_ok-matches.ensures.ok.2 in
    let right = subst (λ a. fault_of a words ≡ []) line (c.in_ok-matches.ensures.kinds (ap is_simple_and_free line ∙ line_is_free)) in
    elim c.match-subcommand.branch [
      | in-Some w ↦ says_job words m w.in-Some.name.now (rows_of (found_of w.in-Some.options.now)) has w.in-Some.ensures.name w.in-Some.ensures.rows
          w.job_named-said.result c.in-Some-said.job right w.job_named-said.ensures (sym w.said-is ∙ c.in-Some-said.is)
      | in-None w ↦ absurd (none-some c.in-Some-said.job (sym w.said-is ∙ c.in-Some-said.is))
    ]

pub returns-clause-fault : goal.returns-clause-fault
returns-clause-fault c =
    let line : app_of c.in_ok-program.program ≡ command_line = c.in_ok-program.ensures ∙ ap command_line_by c.in_ok-texts.ensures in
    let words = map string_bytes c.args.words.now in
    let m = c.in_ok-matches.matches in
    let has = subst (λ a. HasMatchesOf a words m) line c.in_ok-matches.ensures.ok.2 in
    no_job_said words _ c.no_command.ensures (elim c.match-subcommand.branch [
      | in-Some w ↦ says_nothing words m w.in-Some.name.now (rows_of (found_of w.in-Some.options.now)) has w.in-Some.ensures.name w.in-Some.ensures.rows
          w.job_named-said.result w.job_named-said.ensures (sym w.said-is ∙ c.in-None-said.is)
      | in-None w ↦ nothing_entered words (entered_none words m has (sym w.in-None.ensures.name))
    ])
