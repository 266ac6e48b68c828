use Rattle.std.specs.Prelude.{◌≡◌, ◌⊎◌, ◌≤◌, ℕ, Bool, true, false, List, [], ◌∷◌, Some, codes, decimal, pos}
use Rattle.std.specs.Str.Parse.{IsNumeral, digits_value, without_leading_plus}
use Rattle.clap.specs.Words.{App, IsAmong, Row, Rule, Text, fault_of, new_app, new_rule, one_of, subcommand_of, with_rule, with_subcommand}
use Rattle.clap.specs.{declared.error.kind.ErrorKind.ErrorKind, declared.builder.ArgAction.TheVariants.SetTrue, declared.builder.value_parser.ValueParser.TheVariants.Signed}
use Rattle.nap_reader.specs.Budgets.{most_budget, usual_budget}
use Rattle.nap_command.specs.{declared.command.Action.Action, declared.command.Command.Command, Devices.Devices, Commands.Ran, Making.Made, Sessions.Served}
use Rattle.nap_list.specs.declared.device.Inlet as inlet
use Rattle.nap_cli.specs.{declared.words.Job.Job, Explaining.Explains, Explaining.Unread, Explaining.outputs_of}

-- The command line as clap parses it.

-- an option without a value
abbrev pub flag_rule : Text → Rule
flag_rule name = record (new_rule name) { long = Some name; action = Some SetTrue }

-- `--budget N`, a number from 0 to the greatest budget, with this text as its default
abbrev pub budget_rule : Text → Rule
budget_rule usual = record (new_rule (codes "budget")) {
  long = Some (codes "budget");
  value_names = 1;
  parser = Some (Signed (pos 0) (pos most_budget));
  defaults = usual ∷ [];
}

-- a command with the options that all have
abbrev pub command_app : Text → Text → App
command_app usual name = with_rule (with_rule (new_app name) (flag_rule (codes "hex"))) (budget_rule usual)

-- `canon`, which may print as it reads
abbrev pub canon_app : Text → App
canon_app usual = with_rule (command_app usual (codes "canon")) (flag_rule (codes "stream"))

-- the program: it has a version, requires a command, and its own name comes first
abbrev pub program_app : App
program_app = record (new_app (codes "naplps")) {
  top = record (new_app (codes "naplps")).top { no_binary_name = true; subcommand_required = true; has_version = true };
}

-- the commands on one page
abbrev pub page_commands : Text → App
page_commands usual =
    with_subcommand (with_subcommand (with_subcommand program_app (command_app usual (codes "list")).top) (command_app usual (codes "check")).top)
    (canon_app usual).top

-- `make`, which reads lines and may print as it reads
abbrev pub make_app : App
make_app = with_rule (new_app (codes "make")) (flag_rule (codes "stream"))

-- the command line with all commands, `batch` among them, which has no option
abbrev pub command_line_by : Text → App
command_line_by usual = with_subcommand (with_subcommand (page_commands usual) make_app.top) (new_app (codes "batch")).top

-- the command line, with the usual budget as the default
abbrev pub command_line : App
command_line = command_line_by (decimal usual_budget)

abbrev pub action_name : Action → Text
action_name Action.List = codes "list"
action_name Action.Check = codes "check"
action_name Action.Canon = codes "canon"

-- the text of an option that is given or not
abbrev pub option_text : Bool → Text
option_text true = codes "true"
option_text false = codes "false"

-- decimal digits, after a plus or not, that write this budget
abbrev pub IsBudget : Text → ℕ → Type 0
IsBudget text n =
    IsNumeral 10 (without_leading_plus text) × (digits_value 10 (without_leading_plus text) ≡ n) × (n ≤ most_budget)

-- only `canon` has `--stream`
abbrev pub ChoosesStream : Action → List Row → Bool → Type 0
ChoosesStream Action.Canon rows stream = one_of (codes "stream") rows ≡ Some (option_text stream)
ChoosesStream _ rows stream = stream ≡ false

-- the options that clap parsed are those of this command
pub record Chooses (rows : List Row) (c : Command) : Type 0 where
  pub hex : one_of (codes "hex") rows ≡ Some (option_text c.hex)
  pub number : Text
  pub found : one_of (codes "budget") rows ≡ Some number
  pub budget : IsBudget number c.budget
  pub stream : ChoosesStream c.action rows c.stream

abbrev pub job_name : Job → Text
job_name (Job.Page c) = action_name c.action
job_name (Job.Make stream) = codes "make"
job_name Job.Batch = codes "batch"

-- the options that clap parsed are those of this job
abbrev pub ChoosesJob : List Row → Job → Type 0
ChoosesJob rows (Job.Page c) = Chooses rows c
ChoosesJob rows (Job.Make stream) = one_of (codes "stream") rows ≡ Some (option_text stream)
ChoosesJob rows Job.Batch = Unit {0}

-- words that clap accepts and parses as this job
pub record SaysJob (words : List Text) (j : Job) : Type 0 where
  pub right : fault_of command_line words ≡ []
  pub rows : List Row
  pub entered : subcommand_of command_line words ≡ Some (job_name j, rows)
  pub chooses : ChoosesJob rows j

-- what clap finds in words that ask for no command: this kind of error, or lack of memory
abbrev pub IsFault : List Text → ErrorKind → Type 0
IsFault words k =
    (k ≡ ErrorKind.OutOfMemory) ⊎ (IsAmong k (fault_of command_line words) ⊎ ((k ≡ ErrorKind.MissingSubcommand) × ((j : Job) → SaysJob words j → ⊥)))

-- The program ran on an input, from the devices before to those after: it executed the command that the words ask for;
-- or they ask for none, nothing was read, and what clap found was printed or reported.
abbrev pub AnswersWords : {I : Type 0} → inlet.Ghosts I → List Text → I → I → Devices → Devices → ℕ → Type 0
AnswersWords i words start end before after status =
    ((c : Command) × SaysJob words (Job.Page c) × Ran i c start end before after status)
    ⊎ (((stream : Bool) × SaysJob words (Job.Make stream) × Made stream before after status)
    ⊎ ((SaysJob words Job.Batch × Served before after status) ⊎ ((k : ErrorKind) × IsFault words k × Unread before after × Explains k (outputs_of before) (outputs_of after) status)))
