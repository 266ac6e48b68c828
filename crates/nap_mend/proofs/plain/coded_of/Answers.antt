use Rattle.std.proofs.Common.{ap, length, sym, ◌∙◌}
use Rattle.nap_mend.specs.Plain.{before_end, bits_unfilled, coded_to}
use Rattle.nap_mend.proofs.CodedLemmas.{coded_none}
use Rattle.nap_mend.proofs.plain.coded_of.Goals as goal

pub returns-in-None-clause-coded : goal.returns-in-None-clause-coded
returns-in-None-clause-coded c =
    let p = c.args.bytes.now in
    c.coded_to.ensures.coded ∙ ap (coded_to p) c.before_end.ensures.value
    ∙ sym (coded_none (coded_to p (before_end p)) (bits_unfilled p) 0 (length p) (sym c.bits_unfilled.ensures ∙ c.in-None.is))
