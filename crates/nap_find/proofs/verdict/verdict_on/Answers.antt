use Rattle.std.proofs.Common.{arith, length, subst, ◌<◌}
use Rattle.nap_find.specs.Readings.{IsExtent, idle_limit}
use Rattle.nap_find.proofs.IdleLemmas.{idle_long}
use Rattle.nap_find.proofs.verdict.verdict_on.Goals as goal

pub returns-in-Idle-clause-within : goal.returns-in-Idle-clause-within
returns-in-Idle-clause-within c =
    let idle = subst (IsExtent c.args.asked.now c.args.bytes.now) c.in-Idle.is c.in_ok-extent_of.ensures in
    let long : idle_limit < length c.args.bytes.now = idle_long c.args.bytes.now idle in
    omega (arith, long)
