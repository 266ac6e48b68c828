use Rattle.nap_reader.proofs.Common.{BatchFault, Cause, CountedSink, Entry, Err, FaultMatchesDevice, Ghosts, GrowsBy, HaltsAfter, List, Ok, Option, Put, PutSome, Refusal, RefusedBy, Result, SinkFault, [], add-zero, ap, arith, counting, inl, inr, length, length-append, sink_model_of, ℕ, ◌∙◌, ◌∷◌, ◌≡◌}

-- A sink that counts the entries of another sink.

abbrev pub made : {S : Type 0} → S → Option ℕ → CountedSink S
made sink count = record { sink = sink; count = count }

same : {S : Type 0} (s t : CountedSink S) → t.sink ≡ s.sink → t.count ≡ s.count → t ≡ s
same {S = S} s t sink count = ap (λ (x : S). made x t.count) sink ∙ ap (made s.sink) count

-- the number of entries taken, of `all` that were put
abbrev pub taken_of : ℕ → Result (Unit {0}) BatchFault → ℕ
taken_of all (Ok x) = all
taken_of all (Err stop) = stop.taken

-- The entries that another sink took are counted.
module _ {S : Type 0} (g : Ghosts S) (list : List Entry) (s t : CountedSink S) where
  halts : (n : ℕ) (f : SinkFault) → GrowsBy n s.count t.count → (n ≡ 0 → t.count ≡ s.count) → HaltsAfter (sink_model_of g) list s.sink t.sink n f → HaltsAfter (sink_model_of (counting g)) list s t n f
  halts n f grows still h = grind (arith, same)

  tells : (n : ℕ) (f : SinkFault) → (n ≡ 0 → t.count ≡ s.count) → FaultMatchesDevice (sink_model_of g) s.sink t.sink n f → FaultMatchesDevice (sink_model_of (counting g)) s t n f
  tells n f still h = grind (arith, same)

  pub puts : (r : Result (Unit {0}) BatchFault) (n : ℕ) → n ≡ taken_of (length list) r → GrowsBy n s.count t.count → (n ≡ 0 → t.count ≡ s.count) → Put (sink_model_of g) list s.sink t.sink r →
      Put (sink_model_of (counting g)) list s t r
  puts r n is grows still h = grind (arith, same, halts, tells)

-- An entry that another sink didn't take isn't counted.
pub puts_none : {S : Type 0} (g : Ghosts S) (x : Entry) (s : CountedSink S) (t : S) (f : SinkFault) → PutSome {A = Unit {0}} (sink_model_of g) (x ∷ []) s.sink t (Err f) →
    PutSome {A = Unit {0}} (sink_model_of (counting g)) (x ∷ []) s (made t s.count) (Err f)
puts_none g x s t f (n, h, said) = grind (arith, halts, none, add-zero, tells)
  where
    none : (f : SinkFault) → HaltsAfter (sink_model_of g) (x ∷ []) s.sink t n f → n ≡ 0
    none SinkFault.Memory h = omega (arith, h.count, ap length h.parts, length-append h.prefix (h.next ∷ h.rest))
    none SinkFault.Write (inl (set, same, zero)) = zero
    none SinkFault.Write (inr h) = omega (arith, h.count, ap length h.parts, length-append h.prefix (h.next ∷ h.rest))

-- the refusal of a page that was read into a counting sink is the page's
pub refused_alike : {S : Type 0} (g : Ghosts S) (s : CountedSink S) (budget : ℕ) (p : List ℕ) (r : Refusal) (cause : Cause) → RefusedBy (counting g) s budget p r cause → RefusedBy g s.sink budget p r cause
refused_alike g s budget p r cause h = grind arith
