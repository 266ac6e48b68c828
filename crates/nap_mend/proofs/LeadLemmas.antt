use Rattle.std.proofs.Common.{List, drop, false, length, nat_lt, refl, suc, true, ℕ, ◌==◌, ◌≡◌}
use Rattle.nap_mend.specs.Codes.{lead_length, lead_within, with_lead}
use Rattle.nap_mend.specs.Headers.{header_with, header_within}
use Rattle.nap_mend.specs.declared.{codes.Lead.Lead, header.Header.Header}
use Rattle.nap_mend.proofs.SearchLemmas.{if_false, if_true}

-- Steps over what leads, and over a header.

pub lead_ends : (p : List ℕ) (n : ℕ) (lead : Lead) → n ≡ 0 → lead_within p n lead ≡ lead
unfolding lead_within
lead_ends p n lead is = rw is refl

-- nothing more leads
pub lead_stops : (p : List ℕ) (n m : ℕ) (lead : Lead) → n ≡ suc m → (lead_length (drop lead.end p) == 0) ≡ true → lead_within p n lead ≡ lead
unfolding lead_within
lead_stops p n m lead is none =
    rw is (if_true (lead_length (drop lead.end p) == 0) lead (lead_within p m (with_lead p lead (lead_length (drop lead.end p)))) none)

pub lead_goes : (p : List ℕ) (n m : ℕ) (lead : Lead) → n ≡ suc m → (lead_length (drop lead.end p) == 0) ≡ false →
    lead_within p n lead ≡ lead_within p m (with_lead p lead (lead_length (drop lead.end p)))
unfolding lead_within
lead_goes p n m lead is some =
    rw is (if_false (lead_length (drop lead.end p) == 0) lead (lead_within p m (with_lead p lead (lead_length (drop lead.end p)))) some)

pub header_ends : (p : List ℕ) (n : ℕ) (h : Header) → n ≡ 0 → header_within p n h ≡ h
unfolding header_within
header_ends p n h is = rw is refl

pub header_stops : (p : List ℕ) (n m : ℕ) (h : Header) → n ≡ suc m → nat_lt h.end (length p) ≡ false → header_within p n h ≡ h
unfolding header_within
header_stops p n m h is none =
    rw is (if_false (nat_lt h.end (length p)) (header_within p m (header_with p h (lead_length (drop h.end p)))) h none)

pub header_goes : (p : List ℕ) (n m : ℕ) (h : Header) → n ≡ suc m → nat_lt h.end (length p) ≡ true →
    header_within p n h ≡ header_within p m (header_with p h (lead_length (drop h.end p)))
unfolding header_within
header_goes p n m h is some =
    rw is (if_true (nat_lt h.end (length p)) (header_within p m (header_with p h (lead_length (drop h.end p)))) h some)
