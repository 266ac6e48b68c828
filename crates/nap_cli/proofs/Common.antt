-- What the proofs of this crate name of its specs, of other crates and of std.
pub use Rattle.clap.proofs.WalkLemmas.{one_text-rows}
pub use Rattle.clap.specs.{Simple.app_of_fields, declared.error.kind.ErrorKind.ErrorKind}
pub use Rattle.clap.specs.Words.{App, HasKind, HasMatchesOf, Row, Text, app_of, fault_of, found_of, is_simple, is_simple_and_free, kind_of, new_app, rows_of, subcommand_name_of, subcommand_of, subcommand_rows, with_rule, with_subcommand}
pub use Rattle.nap_cli.specs.CommandLine.{ChoosesJob, IsBudget, IsFault, SaysJob, command_app, command_line, command_line_by, flag_rule, job_name, make_app, option_text, page_commands, program_app}
pub use Rattle.nap_cli.specs.Explaining.{Explains, FlushesOnce, IsPlainText, Outputs, PrintsHelp, ReportsNoMemory, ReportsWrong, ShowsHelp, is_plain, outputs, shown_text, shown_words}
pub use Rattle.nap_reader.specs.Budgets.{most_budget}
pub use Rattle.std.proofs.Common.{Bool, Err, IsUtf8, List, None, Ok, Option, Result, Some, [], ap, ap₂, arith, codes, false, inl, inr, map, option_map, refl, rules, slice_index, string_bytes, subst, suc, sym, take, true, zero, ℕ, ◌<◌, ◌^◌, ◌||◌, ◌∙◌, ◌∷◌, ◌≡◌, ◌≢◌, ◌≤◌, ◌⊎◌}
pub use Rattle.std.proofs.{Math.Bool.or-false, Math.Bool.or-true, lemmas.Result.IfOk-weaker, lemmas.Result.err_from_is_err_and}
pub use Rattle.std.specs.List.{list_all}
