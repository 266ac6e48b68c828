use Rattle.std.proofs.Common.{Err, List, None, Some, ap, arith, is_none, length, refl, subst, ℕ, ◌∙◌, ◌≡◌, ◌≢◌}
use Rattle.nap_list.specs.Counting.{CountsEntries}
use Rattle.nap_list.specs.declared.count_sink.CountSink.{CountSink}
use Rattle.nap_reader.specs.Collecting.{IsRead, RefusedBy}
use Rattle.nap_reader.specs.Shared.{Cause, Ghosts, cause_of, stream}
use Rattle.nap_reader.specs.Stream.{means}
use Rattle.nap_reader.specs.declared.fault.{Fault.Fault, Refusal.Refusal}
use Rattle.nap_mend.specs.Counts.{CountsStream}
use Rattle.nap_mend.specs.Pages.{is_stream, mend_budget}

-- What a reading counts.

-- a refusal that is neither of memory nor of a sink is of the stream
pub own_cause : (f : Fault) → f ≢ Fault.Memory → f ≢ Fault.Sink → cause_of f ≡ stream
own_cause Fault.Memory other own = absurd (other refl)
own_cause Fault.Sink other own = absurd (own refl)
own_cause _ other own = refl

pub refused_own : {S : Type 0} {g : Ghosts S} (s : S) (budget : ℕ) (p : List ℕ) (r : Refusal) → IsRead g s budget p (Err r) → cause_of r.fault ≡ stream →
    (means budget p).refusal ≡ Some r
refused_own {g = g} s budget p r read own = subst (λ (c : Cause). RefusedBy g s budget p r c) own read.collects

pub counted : (s sink : CountSink) (budget n : ℕ) (p : List ℕ) → budget ≡ mend_budget → s.count ≡ 0 → (means budget p).refusal ≡ None →
    CountsEntries s (means budget p).entries sink → n ≡ sink.count → CountsStream p (Some n)
unfolding is_stream
counted s sink budget n p usual none accepted counts is =
    let all : sink.count ≡ length (means budget p).entries = omega (arith, counts.count, none) in (
      ap is_none (subst (λ (b : ℕ). (means b p).refusal ≡ None) usual accepted),
      is ∙ all ∙ ap (λ (b : ℕ). length (means b p).entries) usual,
    )

pub not_counted : (budget : ℕ) (p : List ℕ) (r : Refusal) → budget ≡ mend_budget → (means budget p).refusal ≡ Some r → CountsStream p None
unfolding is_stream
not_counted budget p r usual refused = ap is_none (subst (λ (b : ℕ). (means b p).refusal ≡ Some r) usual refused)
