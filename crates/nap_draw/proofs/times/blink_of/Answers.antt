use Rattle.nap_draw.proofs.{Runs.carried_length, Runs.carried_rest, Runs.words_prefix, Walks.blink_made, arith, operand_words}
use Rattle.nap_draw.proofs.times.blink_of.Goals as goal

pub returns : goal.returns
returns c =
    let group = c.args.group.now in
    let parts = c.split_at.result in
    blink_made c.args.domain.single c.min.result c.args.drawing.now.colour (operand_words group) (operand_words parts.0.now) (operand_words parts.1.now) c.single_bytes.result c.word_at.result c.word_at-2.result c.word_at-3.result
    (omega (arith, carried_length group)) (words_prefix _ group _ c.split_at.ensures.front) (carried_rest _ group _ c.split_at.ensures.back) c.single_bytes.ensures c.word_at.ensures c.word_at-2.ensures c.word_at-3.ensures
