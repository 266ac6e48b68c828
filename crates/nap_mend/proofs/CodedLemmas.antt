use Rattle.std.proofs.Common.{List, ap, arith, drop, refl, sym, take, ℕ, ◌+◌, ◌-◌, ◌∙◌, ◌≡◌, ◌≢◌, ◌≤◌}
use Rattle.std.proofs.lemmas.List.{drop-take}
use Rattle.nap_mend.specs.Bits.{eighth_bits}
use Rattle.nap_mend.specs.Codes.{content_begin}
use Rattle.nap_mend.specs.Plain.{coded_after_lead, coded_or, uncoded}
use Rattle.nap_mend.specs.declared.{bits.Bits.Bits, plain.Coded.Coded}

-- Which bytes have eighth bits.

-- the bytes from one index to before another, of the first n
pub slice_to : (p : List ℕ) (b n : ℕ) → b ≤ n → take (n - b) (drop b p) ≡ drop b (take n p)
slice_to p b n order =
    let e : n ≡ b + (n - b) = omega arith in
    sym (ap (λ (m : ℕ). drop b (take m p)) e ∙ drop-take b (n - b) p)

pub coded_none : (other : Coded) (bits : Bits) (begin end : ℕ) → bits ≡ Bits.None → coded_or other bits begin end ≡ other
coded_none other bits begin end is = rw is refl

coded_some : (other : Coded) (bits : Bits) (begin end : ℕ) → bits ≢ Bits.None → coded_or other bits begin end ≡ record { bits = bits; begin = begin; end = end }
coded_some other Bits.None begin end some = absurd (some refl)
coded_some other _ begin end some = refl

-- the eighth bits of what is left of the first n bytes, if these lead with b bytes
pub bits_after : (p : List ℕ) (n b : ℕ) (bits : Bits) → b ≤ n → b ≡ content_begin (take n p) → bits ≡ eighth_bits (take (n - b) (drop b p)) →
    bits ≡ eighth_bits (drop (content_begin (take n p)) (take n p))
bits_after p n b bits order begin is =
    is ∙ ap eighth_bits (slice_to p b n order) ∙ ap (λ (k : ℕ). eighth_bits (drop k (take n p))) begin

pub after_lead : (p : List ℕ) (n b : ℕ) (bits : Bits) → b ≤ n → b ≡ content_begin (take n p) → bits ≡ eighth_bits (take (n - b) (drop b p)) → bits ≢ Bits.None →
    ◌≡◌ {A = Coded} (record { bits = bits; begin = b; end = n }) (coded_after_lead p n)
after_lead p n b bits order begin is some =
    sym (coded_some (uncoded p) bits b n some)
    ∙ ap (λ (found : Bits). coded_or (uncoded p) found b n) (bits_after p n b bits order begin is)
    ∙ ap (λ (k : ℕ). coded_or (uncoded p) (eighth_bits (drop (content_begin (take n p)) (take n p))) k n) begin

pub after_none : (p : List ℕ) (n b : ℕ) (bits : Bits) → b ≤ n → b ≡ content_begin (take n p) → bits ≡ eighth_bits (take (n - b) (drop b p)) → bits ≡ Bits.None →
    uncoded p ≡ coded_after_lead p n
after_none p n b bits order begin is none =
    sym (coded_none (uncoded p) (eighth_bits (drop (content_begin (take n p)) (take n p))) (content_begin (take n p)) n (sym (bits_after p n b bits order begin is) ∙ none))
