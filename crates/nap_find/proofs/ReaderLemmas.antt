use Rattle.std.proofs.Common.{Bool, List, None, Option, Some, [], ap, append_assoc, arith, false, inl, inr, is_none, length, length-append, nat_le, refl, slice_index, subst, sym, take, true, ℕ, ◌&&◌, ◌++◌, ◌+◌, ◌-◌, ◌^◌, ◌∙◌, ◌∷◌, ◌≡◌, ◌≤◌}
use Rattle.std.proofs.lemmas.Bool.{cases_lt, le-leb, lt-leb}
use Rattle.std.proofs.Math.Seq.{take-append-add}
use Rattle.std.proofs.lemmas.List.{take_more}
use Rattle.nap_list.specs.declared.sink.Sink.{Ghosts}
use Rattle.nap_reader.specs.Breaking.{cause_of}
use Rattle.nap_reader.specs.ReaderAnswers.{Answers, AnswersBy, HasRead, IsKnown, StopsAt, StopsBy, budget_of, fed_of, left_of, refusal_of, sink_of}
use Rattle.nap_reader.specs.Stream.{begun, means}
use Rattle.nap_reader.specs.declared.{fault.Refusal.Refusal, reader.Reader.Reader}
use Rattle.nap_draw.specs.Draws.{Cause, stream}
use Rattle.nap_find.specs.Readings.{IsRefusedAt, IsTried, find_budget, is_accepted, is_page, is_read, nothing_drawn}
use Rattle.nap_find.specs.Shapes.{CountsDrawn, capped_sum, shapes_in}
use Rattle.nap_find.specs.declared.{drawn_sink.DrawnSink.DrawnSink, find.Asked.Asked}

-- What a reader shows of the bytes that it has read.

module _ {S : Type 0} {g : Ghosts S} where
  -- what a reader that has refused nothing has put into its sink
  pub known_of : (reader : Reader S g) (s : S) (q : List ℕ) → HasRead reader s q → refusal_of reader ≡ None → budget_of reader ≡ find_budget →
      IsKnown g s (begun find_budget q) (sink_of reader) (left_of reader) None
  known_of reader s q has unrefused budget =
      subst (λ (b : ℕ). IsKnown g s (begun b q) (sink_of reader) (left_of reader) None) budget
      (subst (λ (a : Option Refusal). Answers g s (budget_of reader) q (sink_of reader) (left_of reader) a) unrefused has.answers)

  -- what a reader that has refused the stream has put into its sink
  pub taken_of : (reader : Reader S g) (s : S) (q : List ℕ) (r : Refusal) → HasRead reader s q → refusal_of reader ≡ Some r → budget_of reader ≡ find_budget →
      cause_of r.fault ≡ stream → g.took s (begun find_budget q).entries (sink_of reader)
  taken_of reader s q r has refused budget own =
      let answered : AnswersBy g s (budget_of reader) q (sink_of reader) (left_of reader) r (cause_of r.fault) =
      subst (λ (a : Option Refusal). Answers g s (budget_of reader) q (sink_of reader) (left_of reader) a) refused has.answers in
      let known : IsKnown g s (begun (budget_of reader) q) (sink_of reader) (left_of reader) (Some r) =
      subst (λ (c : Cause). AnswersBy g s (budget_of reader) q (sink_of reader) (left_of reader) r c) own answered in
      subst (λ (b : ℕ). g.took s (begun b q).entries (sink_of reader)) budget known.taken

  -- all bytes are read where nothing is refused
  pub read_all : (reader : Reader S g) (s : S) (q : List ℕ) → HasRead reader s q → refusal_of reader ≡ None → budget_of reader ≡ find_budget → is_read q ≡ true
  unfolding is_read
  read_all reader s q has unrefused budget = ap is_none (known_of reader s q has unrefused budget).refusal

  -- the byte of a piece that is refused, among all bytes
  pub refused_at : (old new : Reader S g) (s : S) (p piece : List ℕ) (r : Refusal) (i n : ℕ) → HasRead old s p → refusal_of old ≡ None → budget_of old ≡ find_budget →
      cause_of r.fault ≡ stream → StopsAt old new piece r i → n + 1 ≡ fed_of new → IsRefusedAt (p ++ piece) n
  unfolding is_read
  refused_at old new s p piece r i n has unrefused budget own at is =
      let fed : fed_of old ≡ length p = has.fed unrefused in
      let there : n ≡ length p + i = omega (arith, at.fed) in
      let later : n + 1 ≡ length p + (i + 1) = omega arith in
      let known : IsKnown g s (begun (budget_of old) ((p ++ take i piece) ++ slice_index piece i ∷ [])) (sink_of new) (left_of new) (Some r) =
      subst (λ (c : Cause). StopsBy g s (budget_of old) (p ++ take i piece) (slice_index piece i) (sink_of new) (left_of new) r c) own (at.there s p has) in
      let parts : take (n + 1) (p ++ piece) ≡ (p ++ take i piece) ++ slice_index piece i ∷ [] =
      ap (λ (k : ℕ). take k (p ++ piece)) later ∙ take-append-add p piece (i + 1) ∙ ap (λ (q : List ℕ). p ++ q) (take_more piece i 0 at.within)
      ∙ sym (append_assoc p (take i piece) (slice_index piece i ∷ [])) in
      record {
        within = omega (arith, at.within, length-append p piece);
        before =
            ap is_read (ap (λ (k : ℕ). take k (p ++ piece)) there ∙ take-append-add p piece i)
            ∙ ap is_none (subst (λ (b : ℕ). (begun b (p ++ take i piece)).refusal ≡ None) budget (at.before s p has));
        refused = ap is_read parts ∙ ap is_none (subst (λ (b : ℕ). (begun b ((p ++ take i piece) ++ slice_index piece i ∷ [])).refusal ≡ Some r) budget known.refusal);
      }

-- The list of an accepted stream, by the counts of its sink.

count_least : (k n : ℕ) → k ≤ 2 ^ 64 - 1 → nat_le k (capped_sum 0 n) ≡ nat_le k n
count_least k n small =
    elim (cases_lt n k) [
      | inl less ↦ lt-leb k (capped_sum 0 n) (omega arith) ∙ sym (lt-leb k n less)
      | inr enough ↦ le-leb k (capped_sum 0 n) (omega arith) ∙ sym (le-leb k n enough)
    ]

same_and : (b e g : Bool) → (b && e && g) ≡ (b && true && (e && g))
same_and true true g = refl
same_and true false g = refl
same_and false e g = refl

join : (a b c d e f g : Bool) → a ≡ b → c ≡ true → d ≡ e → f ≡ g → (a && d && f) ≡ (b && c && (e && g))
join a b c d e f g one two three four = rw (one, two, three, four) (same_and b e g)

-- all bytes are read, and accepted
pub accepted_page : (asked : Asked) (s sink : DrawnSink) (budget count : ℕ) (p : List ℕ) → budget ≡ find_budget → s ≡ nothing_drawn → length p ≡ count → asked.entries ≤ 2 ^ 64 - 1 → asked.shapes ≤ 2 ^ 64 - 1 →
    (means budget p).refusal ≡ None → CountsDrawn s (means budget p).entries sink →
    IsTried asked p (Some (nat_le asked.bytes count && nat_le asked.entries sink.entries && nat_le asked.shapes sink.shapes))
unfolding is_accepted is_page
accepted_page asked s sink budget count p usual none size few_entries few_shapes accepted counts =
    let o = means find_budget p in
    let here : o.refusal ≡ None = subst (λ (b : ℕ). (means b p).refusal ≡ None) usual accepted in
    let drawn : CountsDrawn nothing_drawn o.entries sink =
    subst (λ (b : ℕ). CountsDrawn nothing_drawn (means b p).entries sink) usual (subst (λ (t : DrawnSink). CountsDrawn t (means budget p).entries sink) none counts) in
    let taken : is_none o.refusal ≡ true = ap is_none here in
    let entries : nat_le asked.entries sink.entries ≡ nat_le asked.entries (length o.entries) = ap (nat_le asked.entries) drawn.entries ∙ count_least asked.entries (length o.entries) few_entries in
    let shapes : nat_le asked.shapes sink.shapes ≡ nat_le asked.shapes (shapes_in o.entries) = ap (nat_le asked.shapes) drawn.shapes ∙ count_least asked.shapes (shapes_in o.entries) few_shapes in
    (taken, join (nat_le asked.bytes count) (nat_le asked.bytes (length p)) (is_none o.refusal) (nat_le asked.entries sink.entries) (nat_le asked.entries (length o.entries)) (nat_le asked.shapes sink.shapes) (nat_le asked.shapes (shapes_in o.entries)) (ap (nat_le asked.bytes) (sym size)) taken entries shapes)

pub refused_page : (asked : Asked) (budget : ℕ) (p : List ℕ) (r : Refusal) → budget ≡ find_budget → (means budget p).refusal ≡ Some r → IsTried asked p None
unfolding is_accepted
refused_page asked budget p r usual refused = ap is_none (subst (λ (b : ℕ). (means b p).refusal ≡ Some r) usual refused)
