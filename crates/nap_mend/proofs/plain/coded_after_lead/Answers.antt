use Rattle.std.proofs.Common.{arith, length, length-take, min, take, ◌≡◌, ◌≤◌}
use Rattle.nap_mend.proofs.CodedLemmas.{after_lead, after_none}
use Rattle.nap_mend.proofs.plain.coded_after_lead.Goals as goal

pub returns-in-None-clause-coded : goal.returns-in-None-clause-coded
returns-in-None-clause-coded c =
    let p = c.args.bytes.now in
    let n = c.args.count in
    let b = c.content_begin-begin.result in
    let size : length (take n p) ≡ min n (length p) = length-take n p in
    let order : b ≤ n = omega (arith, size, c.content_begin-begin.ensures.within) in
    after_none p n b c.eighth_bits.result order c.content_begin-begin.ensures.value c.eighth_bits.ensures c.in-None.is

pub returns-in_default : goal.returns-in_default
returns-in_default c =
    let p = c.args.bytes.now in
    let n = c.args.count in
    let b = c.content_begin-begin.result in
    let size : length (take n p) ≡ min n (length p) = length-take n p in
    let order : b ≤ n = omega (arith, size, c.content_begin-begin.ensures.within) in
    record {
      coded = after_lead p n b c.eighth_bits.result order c.content_begin-begin.ensures.value c.eighth_bits.ensures c.in_default.not-None;
      order = order;
      within = c.requires;
    }
