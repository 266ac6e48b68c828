use Rattle.std.proofs.Common.{Bool, List, None, Option, Some, ap, arith, drop, false, is_none, length, nat_le, refl, subst, sym, take, true, ℕ, ◌&&◌, ◌++◌, ◌+◌, ◌<◌, ◌∙◌, ◌≡◌, ◌≢◌, ◌≤◌}
use Rattle.std.proofs.lemmas.List.{take-append-drop, take-take, take_all}
use Rattle.nap_reader.proofs.PublicLaws.{more_bytes_keep_refusal}
use Rattle.nap_reader.specs.Breaking.{cause_of}
use Rattle.nap_reader.specs.Stream.{Outcome, begun, means}
use Rattle.nap_reader.specs.declared.fault.{Fault.Fault, Refusal.Refusal}
use Rattle.nap_draw.specs.Draws.{stream}
use Rattle.nap_find.specs.Readings.{IsRefusedAt, draws, find_budget, is_accepted, is_page, is_read, reach, reads}
use Rattle.nap_find.specs.declared.find.Asked.{Asked}
use Rattle.nap_find.proofs.SearchingLemmas.{greatest-is}

-- Readings of more and of fewer bytes.

some_of : (o : Option Refusal) → is_none o ≡ false → (r : Refusal) × (o ≡ Some r)
some_of None h = cc
some_of (Some r) h = (r, refl)

-- what is refused stays refused
pub refused_stays : (p q : List ℕ) → is_read p ≡ false → is_read (p ++ q) ≡ false
unfolding is_read
refused_stays p q refused =
    let some = some_of (begun find_budget p).refusal refused in
    ap (λ (o : Outcome). is_none o.refusal) (more_bytes_keep_refusal find_budget p q some.0 some.1) ∙ refused

take_parts : (q : List ℕ) (n k : ℕ) → n ≤ k → take n q ++ drop n (take k q) ≡ take k q
take_parts q n k most = ap (λ (p : List ℕ). p ++ drop n (take k q)) (sym (take-take n k q most)) ∙ take-append-drop n (take k q)

pub refused_later : (q : List ℕ) (n k : ℕ) → reads q n ≡ false → n ≤ k → reads q k ≡ false
refused_later q n k refused most = subst (λ (p : List ℕ). is_read p ≡ false) (take_parts q n k most) (refused_stays (take n q) (drop n (take k q)) refused)

-- the reach, by the first refused byte
pub reach_refused : (q : List ℕ) (n : ℕ) → IsRefusedAt q n → reach q ≡ n
reach_refused q n at =
    greatest-is (reads q) (length q) n (omega (arith, at.within)) at.before (λ i above most. refused_later q (n + 1) i at.refused (omega arith))

pub read_whole : (q : List ℕ) → is_read q ≡ true → reads q (length q) ≡ true
read_whole q read = ap is_read (take_all (length q) q (omega arith)) ∙ read

pub reach_whole : (q : List ℕ) → is_read q ≡ true → reach q ≡ length q
reach_whole q read =
    greatest-is (reads q) (length q) (length q) (omega arith) (read_whole q read) (λ i above most. absurd (omega arith))

-- the whole is refused where a byte is
pub refused_whole : (q : List ℕ) (n : ℕ) → IsRefusedAt q n → is_read q ≡ false
refused_whole q n at =
    ap is_read (sym (take_all (length q) q (omega arith))) ∙ refused_later q (n + 1) (length q) at.refused (omega (arith, at.within))

-- the first bytes of others, with a refused byte
pub refused_in : (q : List ℕ) (k n : ℕ) → k ≤ length q → IsRefusedAt (take k q) n → n < k → IsRefusedAt q n
refused_in q k n few at less = record {
  within = omega arith;
  before = ap is_read (sym (take-take n k q (omega arith))) ∙ at.before;
  refused = ap is_read (sym (take-take (n + 1) k q (omega arith))) ∙ at.refused;
}

-- a refusal that is neither lack of memory nor a failed sink is the stream's own
pub own_cause : (f : Fault) → f ≢ Fault.Memory → f ≢ Fault.Sink → cause_of f ≡ stream
own_cause Fault.Memory other own = absurd (other refl)
own_cause Fault.Sink other own = absurd (own refl)
own_cause _ other own = refl

-- what is refused is no page
pub refused_no_page : (asked : Asked) (p : List ℕ) → is_accepted p ≡ false → is_page asked p ≡ false
unfolding is_page
refused_no_page asked p refused =
    rw refused (ap (λ (b : Bool). b && draws asked (means find_budget p).entries) (and_false (nat_le asked.bytes (length p))))
  where
    and_false : (b : Bool) → (b && false) ≡ false
    and_false true = refl
    and_false false = refl
