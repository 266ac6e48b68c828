use Rattle.nap_cli.proofs.{CommandLineLemmas.flag_read, CommandLineLemmas.flag_unread, codes, found_of, one_text-rows, sym, ◌∙◌}
use Rattle.nap_cli.proofs.words.stream_chosen.Goals as goal

pub returns-in_err-stream : goal.returns-in_err-stream
returns-in_err-stream c =
    let is = one_text-rows (found_of c.args.options.now) (codes "stream") in
    rw c.from_residual.ensures (λ b chosen. flag_unread _ c.in_err-stream.ensures.value b (is ∙ chosen))

pub returns : goal.returns
returns c =
    let is = one_text-rows (found_of c.args.options.now) (codes "stream") in
    let found = c.in_ok-stream in
    sym is ∙ flag_read _ found.stream found.ensures.none found.ensures.value
