use Rattle.std.proofs.Common.{ℕ, ◌≡◌, ◌+◌, ◌^◌, ◌≤◌, false, List, [], ◌++◌, length, refl, sym, ap, ◌∙◌, length-append, arith}
use Rattle.nap_list.specs.{declared.count_sink.CountSink.CountSink, Types.Entry, Types.State, Putting.SinkModel, Putting.sink_model, State.walk, Walks.walks_join}

-- a counting sink took these entries
pub record CountsEntries (s : CountSink) (d : List Entry) (t : CountSink) : Type 0 where
  pub count : t.count ≡ s.count + length d
  pub state : t.state.state ≡ walk s.state.state d

-- the count of these entries would exceed 2^64 - 1
abbrev pub Uncounted : CountSink → List Entry → Type 0
Uncounted s d = 2 ^ 64 ≤ s.count + length d

-- The members of the trait for a counting sink.

pub counts_none : (s : CountSink) → CountsEntries s [] s
unfolding walk
counts_none s = record { count = none s.count; state = refl }
  where
    none : (n : ℕ) → n ≡ n + 0
    none n = omega arith

pub counts_more : (s t u : CountSink) (d e : List Entry) → CountsEntries s d t → CountsEntries t e u → CountsEntries s (d ++ e) u
counts_more s t u d e first second = record {
  count = more (length d) (length e) (length (d ++ e)) s.count t.count u.count (length-append d e) first.count second.count;
  state = second.state ∙ ap (λ (state : State). walk state e) first.state ∙ sym (walks_join s.state.state d e);
}
  where
    more : (a b c i j k : ℕ) → c ≡ a + b → j ≡ i + a → k ≡ j + b → k ≡ i + c
    more a b c i j k all one two = omega arith

pub uncounted_more : (s t : CountSink) (d e f : List Entry) → CountsEntries s d t → Uncounted t e → Uncounted s (d ++ (e ++ f))
uncounted_more s t d e f first wants =
    more (length d) (length e) (length f) (length (e ++ f)) (length (d ++ (e ++ f))) (2 ^ 64) s.count t.count (length-append e f) (length-append d (e ++ f)) first.count wants
  where
    more : (a b c i j m k n : ℕ) → i ≡ b + c → j ≡ a + i → n ≡ k + a → m ≤ n + b → m ≤ k + j
    more a b c i j m k n both all one two = omega arith

-- a counting sink as a model of any sink
abbrev pub count_sink_model : SinkModel CountSink
count_sink_model = sink_model (λ s. s.state.state) Uncounted (λ s. false) CountsEntries (λ s d e t. ⊥)
