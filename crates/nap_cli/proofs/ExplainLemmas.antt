use Rattle.nap_cli.proofs.{Err, ErrorKind, Explains, FlushesOnce, IsPlainText, IsUtf8, List, Ok, Option, Outputs, PrintsHelp, ReportsNoMemory, ReportsWrong, Result, ShowsHelp, [], arith, inl, inr, is_plain, list_all, or-true, refl, slice_index, suc, take, true, zero, ℕ, ◌<◌, ◌||◌, ◌∙◌, ◌∷◌, ◌≡◌, ◌≢◌}
use Rattle.nap_command.specs.{Devices.TakesText, declared.failure.Failure.Failure}
use Rattle.std.proofs.{lemmas.Bool.and_from, lemmas.Bool.and_parts, lemmas.Str.IsUtf8-from_ascii}
use Rattle.std.specs.Io.KnownBytes.{Appends}

-- words of any kind, if memory runs out

module _ (before after : Outputs) (status : ℕ) where
  memory_at_help : ReportsNoMemory before after status → ShowsHelp before after status
  memory_at_help h = record { text = []; e = h.e; ended = Err Failure.Memory; shown = h.unprinted; reported = h.reported; tells = h.tells }

  pub explains_memory : (k : ErrorKind) → ReportsNoMemory before after status → Explains k before after status
  explains_memory ErrorKind.DisplayHelp h = memory_at_help h
  explains_memory ErrorKind.DisplayVersion h = memory_at_help h
  explains_memory ErrorKind.OutOfMemory h = h
  explains_memory _ h = inr h

  -- words that ask for help
  pub explains_help : (k : ErrorKind) → ((k ≢ ErrorKind.DisplayHelp) × (k ≢ ErrorKind.DisplayVersion) → ⊥) → ShowsHelp before after status → Explains k before after status
  explains_help ErrorKind.DisplayHelp n h = h
  explains_help ErrorKind.DisplayVersion n h = h
  explains_help _ n h = absurd (n (λ e. cc, λ e. cc))

  -- words that are wrong
  pub explains_wrong : (k : ErrorKind) → k ≢ ErrorKind.DisplayHelp → k ≢ ErrorKind.DisplayVersion → k ≢ ErrorKind.OutOfMemory → ReportsWrong before after status → Explains k before after status
  explains_wrong ErrorKind.DisplayHelp a b c h = absurd (a refl)
  explains_wrong ErrorKind.DisplayVersion a b c h = absurd (b refl)
  explains_wrong ErrorKind.OutOfMemory a b c h = absurd (c refl)
  explains_wrong _ a b c h = inl h

-- help that the output didn't take
pub shows_failing : (before after : Outputs) (text : List ℕ) (f : Failure) → TakesText before.taken after.taken text (Err f) → after.failed ≡ (before.failed || true) → FlushesOnce before after →
    PrintsHelp before after text (Err f)
shows_failing before after text (Failure.Write n) h e once = (h, e ∙ or-true before.failed, once)
shows_failing before after text _ h e once = absurd h

-- a part of plain text is plain
pub plain_part : (n : ℕ) (text : List ℕ) → IsPlainText text → IsPlainText (take n text)
plain_part zero text h = refl
plain_part (suc n) [] h = refl
plain_part (suc n) (x ∷ xs) h = let both = and_parts (is_plain x) (list_all is_plain xs) h in and_from (is_plain x) (list_all is_plain (take n xs)) both.0 (plain_part n xs both.1)

-- what standard error took of plain text is plain
pub takes_plain : (old new : Option (List ℕ)) (text : List ℕ) (r : Result (Unit {0}) Failure) → TakesText old new text r → IsPlainText text → (e : List ℕ) × Appends old new e × IsPlainText e
takes_plain old new text (Ok done) h plain = (text, h, plain)
takes_plain old new text (Err (Failure.Write n)) h plain = (take n text, h.1, plain_part n text plain)
takes_plain old new text (Err _) h plain = absurd h

-- Plain text is UTF-8.

below : (b : ℕ) → is_plain b ≡ true → b < 128
below b h = grind arith

ascii : (text : List ℕ) → IsPlainText text → (i : ℕ) → slice_index text i < 128
ascii [] h i = omega arith
ascii (b ∷ text) h zero = below b (and_parts (is_plain b) (list_all is_plain text) h).0
ascii (b ∷ text) h (suc i) = ascii text (and_parts (is_plain b) (list_all is_plain text) h).1 i

pub plain_utf8 : (text : List ℕ) → IsPlainText text → IsUtf8 text
plain_utf8 text h = IsUtf8-from_ascii text (ascii text h)
