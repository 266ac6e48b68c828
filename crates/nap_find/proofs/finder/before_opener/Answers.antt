use Rattle.std.proofs.Common.{arith, get_or}
use Rattle.std.proofs.lemmas.Bool.{false_from_ne_true}
use Rattle.nap_find.specs.Beginnings.{is_opener}
use Rattle.nap_find.proofs.finder.before_opener.Goals as goal

pub returns-in-Some-clause-others : goal.returns-in-Some-clause-others
returns-in-Some-clause-others c =
    λ k less. false_from_ne_true (is_opener (get_or c.args.piece.now k 0)) (λ is. c.in-Some.ensures.0.before k (omega arith) less is)

pub returns-in-None-clause-others : goal.returns-in-None-clause-others
returns-in-None-clause-others c =
    λ k less. false_from_ne_true (is_opener (get_or c.args.piece.now k 0)) (λ is. c.in-None.ensures k (omega arith) less is)
