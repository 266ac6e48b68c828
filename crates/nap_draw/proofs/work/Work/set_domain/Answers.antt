use Rattle.nap_draw.proofs.{Results.domain_given, ap, domain_in, map, operand_words, ◌%◌, ◌∙◌}
use Rattle.nap_draw.proofs.work.Work.set_domain.Goals as goal

pub returns : goal.returns
returns c =
    let word = c.of_byte-word.ensures in
    rw c.unwrap_or-self.ensures (domain_given c.args.self.now (operand_words c.args.run.now) (operand_words c.in-Some.words.now) (c.in-Some.word.now % 64) c.get.result c.domain_in-self.result c.first_move.result
    (ap (map (λ byte. byte % 64)) c.in-Some.ensures.cases.0) (c.get.ensures.value ∙ word) c.if-get-eq1.false (c.domain_in-self.ensures ∙ ap domain_in word) c.first_move.ensures)
