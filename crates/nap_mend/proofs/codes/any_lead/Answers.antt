use Rattle.std.proofs.Common.{List, ap, arith, drop, length, length-drop, subst, suc, sym, ℕ, ◌+◌, ◌-◌, ◌∙◌, ◌≡◌, ◌≤◌}
use Rattle.std.proofs.lemmas.Bool.{eq-eqb, ne_eqb}
use Rattle.std.proofs.lemmas.List.{take_rest}
use Rattle.nap_mend.specs.Codes.{lead_length, lead_within, with_lead}
use Rattle.nap_mend.specs.declared.codes.Lead.{Lead}
use Rattle.nap_mend.proofs.LeadLemmas.{lead_ends, lead_goes, lead_stops}
use Rattle.nap_mend.proofs.codes.any_lead.Goals as goal

pub returns-then-count-eq0-clause-lead : goal.returns-then-count-eq0-clause-lead
returns-then-count-eq0-clause-lead c =
    let p = c.args.bytes.now in
    let lead = c.loop.lead in
    let m = length p - (c.loop.counter + 1) in
    let is : length p - c.loop.counter ≡ suc m = omega arith in
    let count = c.lead_length-count.ensures.value ∙ ap lead_length (take_rest p lead.end) in
    sym (lead_stops p (length p - c.loop.counter) m lead is (eq-eqb (lead_length (drop lead.end p)) 0 (sym count ∙ c.if-count-eq0.true))) ∙ c.loop.invariant.0

pub loop-preserved : goal.loop-preserved
loop-preserved c =
    let p = c.args.bytes.now in
    let lead = c.loop.lead in
    let m = length p - (c.loop.counter + 1) in
    let is : length p - c.loop.counter ≡ suc m = omega arith in
    let n = c.lead_length-count.result in
    let count : n ≡ lead_length (drop lead.end p) = c.lead_length-count.ensures.value ∙ ap lead_length (take_rest p lead.end) in
    let within : n ≤ length (drop lead.end p) = subst (λ (q : List ℕ). n ≤ length q) (take_rest p lead.end) c.lead_length-count.ensures.within in
    let next = c.with_lead-lead.ensures ∙ ap (with_lead p lead) count in
    let size : length (drop lead.end p) ≡ length p - lead.end = length-drop lead.end p in
    let end = ap (λ (l : Lead). l.end) c.with_lead-lead.ensures in (
      ap (lead_within p m) next
          ∙ sym (lead_goes p (length p - c.loop.counter) m lead is (ne_eqb (lead_length (drop lead.end p)) 0 (λ none. c.if-count-eq0.false (count ∙ none))))
          ∙ c.loop.invariant.0,
      omega (arith, end, within, size, c.loop.invariant.1),
    )

pub returns-clause-lead : goal.returns-clause-lead
returns-clause-lead c =
    let p = c.args.bytes.now in
    let none : length p - c.loop.counter ≡ 0 = omega arith in
    sym (lead_ends p (length p - c.loop.counter) c.loop.lead none) ∙ c.loop.invariant.0
