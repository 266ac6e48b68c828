use Rattle.nap_cli.proofs.{[], Bool, ChoosesJob, Err, ErrorKind, HasKind, HasMatchesOf, IsBudget, IsFault, List, None, Option, Row, SaysJob, Some, Text, ap, ap₂, arith, codes, command_line, false, fault_of, inl, inr, is_simple, is_simple_and_free, job_name, kind_of, most_budget, option_map, option_text, refl, subcommand_name_of, subcommand_of, subcommand_rows, subst, sym, true, ℕ, ◌<◌, ◌^◌, ◌∙◌, ◌≡◌, ◌≢◌, ◌≤◌, ◌⊎◌}
use Rattle.std.proofs.lemmas.Option.{none-some, same_Some, some_pair_parts}
use Rattle.clap.proofs.OnLiterals.{clap_on_literals}
use Rattle.clap.specs.{declared.error.Error.Error, declared.parser.matches.ArgMatches.ArgMatches, declared.parser.matches.SubCommand.SubCommand}
use Rattle.clap.specs.declared.parser.matches.ArgMatches.TheViews.{out-ArgMatches, out-SubCommand}
use Rattle.nap_cli.specs.declared.words.Job.{Job}
use Rattle.std.specs.{Bool.MatchBool, Box.box_value, Prelude.Box, Prelude.MatchOption}
use Rattle.std.specs.Str.Parse.{IsNumeral, ParsesBool, ParsesUnsigned, digits_value, without_leading_plus}

pub line_is_simple : is_simple command_line ≡ true
unfolding clap_on_literals
line_is_simple = refl

pub line_is_free : is_simple_and_free command_line ≡ true
unfolding clap_on_literals
line_is_free = refl

-- clap's error for the words
pub fault_found : (words : List Text) (e : Error) → HasKind (fault_of command_line words) e → IsFault words (kind_of e)
fault_found words e (inl h) = inl h
fault_found words e (inr h) = inr (inl h)

-- the name and the rows of the command that clap entered
abbrev pub entered_rows : ArgMatches → Option (Text × List Row)
entered_rows m = subcommand_rows (out-ArgMatches m).subcommand

name_of_rows : {Z : Type 0} (o : Option (Box SubCommand Z)) → option_map (λ (p : Text × List Row). p.0) (subcommand_rows o) ≡ option_map (λ b. (out-SubCommand (box_value b)).name.now) o
name_of_rows None = refl
name_of_rows (Some b) = refl

some_by_parts : {A B : Type 0} (o : Option (A × B)) (a : A) (b : B) → option_map (λ (p : A × B). p.0) o ≡ Some a → option_map (λ (p : A × B). p.1) o ≡ Some b → o ≡ Some (a, b)
some_by_parts None a b h k = cc
some_by_parts (Some p) a b h k =
    let x : p.0 ≡ a = cc in
    let y : p.1 ≡ b = cc in
    ap₂ (λ u v. Some (u, v)) x y

none_by_part : {A B : Type 0} (o : Option (A × B)) → option_map (λ (p : A × B). p.0) o ≡ None → o ≡ None
none_by_part None h = refl
none_by_part (Some p) h = cc

-- the name and the rows of the command that clap entered are those of the words
pub entered_by : (words : List Text) (m : ArgMatches) (name : Text) (rows : List Row) → HasMatchesOf command_line words m → subcommand_name_of m ≡ Some name
    → option_map (λ (p : Text × List Row). p.1) (entered_rows m) ≡ Some rows → subcommand_of command_line words ≡ Some (name, rows)
entered_by words m name rows has named rowed =
    sym (has line_is_simple).1 ∙ some_by_parts (entered_rows m) name rows (name_of_rows (out-ArgMatches m).subcommand ∙ named) rowed

-- clap entered no command
pub entered_none : (words : List Text) (m : ArgMatches) → HasMatchesOf command_line words m → subcommand_name_of m ≡ None → subcommand_of command_line words ≡ None
entered_none words m has named = sym (has line_is_simple).1 ∙ none_by_part (entered_rows m) (name_of_rows (out-ArgMatches m).subcommand ∙ named)

-- what clap found is no job's
pub nothing_chosen : (words : List Text) (name : Text) (rows : List Row) → subcommand_of command_line words ≡ Some (name, rows)
    → ((j : Job) → job_name j ≡ name → ChoosesJob rows j → ⊥) → (j : Job) → SaysJob words j → ⊥
nothing_chosen words name rows entered none j says =
    let same = some_pair_parts (job_name j) name says.rows rows (sym says.entered ∙ entered) in
    none j same.0 (subst (λ x. ChoosesJob x j) same.1 says.chooses)

pub nothing_entered : (words : List Text) → subcommand_of command_line words ≡ None → (j : Job) → SaysJob words j → ⊥
nothing_entered words entered j says = none-some (job_name j, says.rows) (sym entered ∙ says.entered)

-- a job, or none, with the options that clap found
module _ (words : List Text) (m : ArgMatches) (name : Text) (rows : List Row) (has : HasMatchesOf command_line words m) (named : Some name ≡ subcommand_name_of m)
    (rowed : Some rows ≡ option_map (λ (p : Text × List Row). p.1) (entered_rows m)) where
  abbrev pub IsJob : Option Job → Type 0
  IsJob r = MatchOption r ((j : Job) → job_name j ≡ name → ChoosesJob rows j → ⊥) (λ j. (job_name j ≡ name) × ChoosesJob rows j)

  found : subcommand_of command_line words ≡ Some (name, rows)
  found = entered_by words m name rows has (sym named) (sym rowed)

  pub says_job : (r : Option Job) (j : Job) → fault_of command_line words ≡ [] → IsJob r → r ≡ Some j → SaysJob words j
  says_job None j right h is = absurd (none-some j is)
  says_job (Some k) j right h is =
      subst (SaysJob words) (same_Some k j is) (record { right = right; rows = rows; entered = found ∙ ap (λ t. Some (t, rows)) (sym h.0); chooses = h.1 })

  pub says_nothing : (r : Option Job) → IsJob r → r ≡ None → (j : Job) → SaysJob words j → ⊥
  says_nothing None h is = nothing_chosen words name rows found h
  says_nothing (Some k) h is = absurd (none-some k (sym is))

-- clap's error for words that ask for no command
pub no_job_said : (words : List Text) (k : ErrorKind) → (k ≡ ErrorKind.OutOfMemory) ⊎ (k ≡ ErrorKind.MissingSubcommand) → ((j : Job) → SaysJob words j → ⊥) → IsFault words k
no_job_said words k (inl h) none = inl h
no_job_said words k (inr h) none = inr (inr (h, none))

-- What options say about the text that clap found.

pub true_or_false : (b : Bool) → b ≡ false → b ≡ true → ⊥
true_or_false b h k = cc

flag_is : (t : Text) (b : Bool) → MatchBool b (t ≡ codes "true") (t ≡ codes "false") → t ≡ option_text b
flag_is t true h = h
flag_is t false h = h

-- the flag that a text names was parsed
pub flag_read : (o : Option Text) (b : Bool) → (o ≡ None → Some b ≡ None) → ((t : Text) → o ≡ Some t → MatchBool b (t ≡ codes "true") (t ≡ codes "false")) → o ≡ Some (option_text b)
flag_read None b none value = absurd (none-some b (sym (none refl)))
flag_read (Some t) b none value = ap Some (flag_is t b (value t refl))

-- the number that a text of digits writes, if it fits
abbrev IsNumber : Text → ℕ → Type 0
IsNumber t n = (IsNumeral 10 (without_leading_plus t) × (digits_value 10 (without_leading_plus t) < 2 ^ 32)) × (n ≡ digits_value 10 (without_leading_plus t))

-- the number of digits was parsed
pub number_read : (o : Option Text) (n : ℕ) → (o ≡ None → Some n ≡ None) → ((t : Text) → o ≡ Some t → IsNumber t n) → n ≤ most_budget →
    (t : Text) × (o ≡ Some t) × IsBudget t n
number_read None n none value most = absurd (none-some n (sym (none refl)))
number_read (Some t) n none value most = let h = value t refl in (t, refl, (h.0.0, sym h.1, most))

-- a budget is the number that was parsed
pub number_same : (o : Option Text) (m : ℕ) → ((t : Text) → o ≡ Some t → IsNumber t m) → (t : Text) (n : ℕ) → o ≡ Some t → IsBudget t n → m ≤ most_budget
number_same o m value t n is h = omega (arith, h.1, h.2, (value t is).1)

flag_isnt : (b : Bool) → (option_text b ≢ codes "true") × (option_text b ≢ codes "false") → ⊥
flag_isnt true h = h.0 refl
flag_isnt false h = h.1 refl

module _ {E : Type 0} where
  -- the text of a flag is parsed
  pub flag_unread : (o : Option Text) → ((t : Text) → o ≡ Some t → (e : E) × ParsesBool {E = E} t (Err e)) → (b : Bool) → o ≡ Some (option_text b) → ⊥
  flag_unread o value b is = flag_isnt b (value (option_text b) is).1

  -- the text of a budget is parsed
  pub number_unread : (o : Option Text) → ((t : Text) → o ≡ Some t → (e : E) × ParsesUnsigned {E = E} 32 10 t (Err e)) → (t : Text) (n : ℕ) → o ≡ Some t → IsBudget t n → ⊥
  number_unread o value t n is h = (value t is).1 (h.0, omega (arith, h.1, h.2))
