use Rattle.std.proofs.Common.{◌≡◌, ◌≢◌, ◌⊎◌, ◌∙◌, ℕ, Bool, true, false, List, ◌++◌, Option, Some, None, Result, Ok, Err, length, refl, sym, ap, subst, inl, inr, append-nil}
use Rattle.std.specs.Io.KnownBytes.{Appends, Consumes, IsAtEnd}
use Rattle.naplps.specs.declared.Fault.{Fault}
use Rattle.naplps.specs.declared.Fault.TheVariants as faults
use Rattle.naplps.specs.declared.Refusal.{Refusal}
use Rattle.naplps.specs.declared.ConvertFault.{ConvertFault}
use Rattle.naplps.specs.declared.ConvertFault.TheVariants as fault
use Rattle.naplps.specs.Breaking.{cause_of}
use Rattle.naplps.specs.Budgets.{usual_budget}
use Rattle.naplps.specs.Converting.{Converts, RefusesBy, count_of}
use Rattle.naplps.specs.Draws.{Cause, stream, memory, device}
use Rattle.naplps.specs.Reading.{Reading, IsReadWhole}
use Rattle.naplps.specs.Stream.{Outcome, begun, ended_by, means}
use Rattle.naplps.specs.Streams.{IsCanonicalOf}
use Rattle.naplps.specs.Text.{text}
use Rattle.naplps.proofs.ReadingLaws.{more_bytes_keep_refusal}
use Rattle.naplps_examples.specs.Converting.{Converted, Gets}

-- If no byte is left, all were read.
all_read : (page p : List ℕ) (left : Option (List ℕ)) → Consumes (Some page) left p → IsAtEnd left → p ≡ page
all_read page p None read end = absurd read
all_read page p (Some rest) read end = sym (read ∙ ap (λ (bytes : List ℕ). p ++ bytes) end ∙ append-nil p)

-- The end of a page that is refused before it adds no entry.
refused_means : (budget : ℕ) (p : List ℕ) (r : Refusal) → (begun budget p).refusal ≡ Some r → means budget p ≡ begun budget p
refused_means budget p r is = ap (λ (q : Option Refusal). ended_by (begun budget p) (length p) q) is

-- Bytes that show the refusal mean what the page does.
shown_before : (budget : ℕ) (page p : List ℕ) (left : Option (List ℕ)) (r : Refusal) → Consumes (Some page) left p → (begun budget p).refusal ≡ Some r →
    means budget p ≡ means budget page
shown_before budget page p None r read is = absurd read
shown_before budget page p (Some rest) r read is =
    let more = more_bytes_keep_refusal budget p rest r is in
    refused_means budget p r is
    ∙ sym more
    ∙ sym (refused_means budget (p ++ rest) r (ap (λ (o : Outcome). o.refusal) more ∙ is))
    ∙ ap (means budget) (sym read)

-- Bytes that were read, all of the page or up to its refusal, mean what the page does.
same_meaning : (page p : List ℕ) (seen : Reading) (r : Refusal) → Consumes (Some page) seen.left p → IsReadWhole seen p ⊎ ((begun usual_budget p).refusal ≡ Some r) →
    means usual_budget p ≡ means usual_budget page
same_meaning page p seen r read (inl whole) = ap (means usual_budget) (all_read page p seen.left read whole.end)
same_meaning page p seen r read (inr shown) = shown_before usual_budget page p seen.left r read shown

not_memory : (f : Fault) → f ≢ faults.Memory → cause_of f ≡ memory → ⊥
not_memory faults.Memory apart is = apart refl
not_memory _ apart is = cc

refused_by : (page p q : List ℕ) (seen : Reading) (before after : Option (List ℕ)) (r : Refusal) (count : ℕ) (cause : Cause) → cause_of r.fault ≡ cause →
    Consumes (Some page) seen.left p → Appends before after q → count ≡ count_of q → RefusesBy usual_budget p seen q r cause → Converted page before after (Err (fault.Refused r count))
refused_by page p q seen before after r count stream is read took number h apart =
    let gets : Gets before after q count = (took, number) in
    subst (λ (o : Outcome). (o.refusal ≡ Some r) × Gets before after (text o.entries) count) (same_meaning page p seen r read h.left)
    (h.refused, subst (λ (bytes : List ℕ). Gets before after bytes count) h.text gets)
refused_by page p q seen before after r count memory is read took number h apart = absurd (not_memory r.fault apart is)
refused_by page p q seen before after r count device is read took number h apart = absurd h

-- What a conversion ensures for the bytes read, it ensures for a page that is all of the input.
pub converted : (page p q : List ℕ) (seen : Reading) (before after : Option (List ℕ)) (failed : Bool) (answer : Result ℕ ConvertFault) →
    Converts usual_budget p seen q failed answer → Consumes (Some page) seen.left p → Appends before after q → Converted page before after answer
converted page p q seen before after false (Ok n) h read took =
    (q, subst (IsCanonicalOf usual_budget q) (all_read page p seen.left read h.1.read.end) h.1.canonical, (took, h.0))
converted page p q seen before after false (Err (fault.Refused r n)) h read took = refused_by page p q seen before after r n (cause_of r.fault) refl read took h.0 h.1
converted page p q seen before after true (Ok n) h read took = absurd h
converted page p q seen before after true (Err (fault.Refused r n)) h read took = absurd h
converted page p q seen before after _ (Err (fault.Read n)) h read took = tt
converted page p q seen before after _ (Err (fault.Write n)) h read took = tt
