use Rattle.nap_command.proofs.{arith, refl, vec_capacity}
use Rattle.nap_command.proofs.CommandLemmas.{ends, flushes_once, leaves, none_written_amiss}
use Rattle.nap_command.proofs.listing.print_lines.Goals as goal

pub returns : goal.returns
returns g c =
    let O = g.O.Outlet in
    let w = c.args.output in
    let command = c.args.command.now in
    let page = c.args.kept.page.items in
    let space = vec_capacity c.args.kept.memory in
    let twice = c.read_twice-printer.result in
    let out = c.finished-output.result in
    let ended = c.end_list-answer.ensures in
    let gone = leaves O w c.requires.works command c.requires.list page space _ c.new.result (λ t. refl) _ c.requires.works (λ t d k. k) (λ t d e k. k) (λ d few. omega (arith, few, c.args.kept.enough)) out.0 out.1 twice.0
    c.new-printer.result c.new-printer.ensures c.as_slice.result.now c.as_slice.ensures.value twice.1 c.read_twice-printer.ensures c.finished-output.ensures in
    record {
      ends = ends O w c.requires.works command c.requires.list page space out.0 c.end_list-answer.new.output out.1 twice.1 c.end_list-answer.result gone ended.taken ended.failed ended.answer;
      sends = ended.sent;
      flushes = flushes_once O w c.requires.works command c.requires.list page space out.0 c.end_list-answer.new.output out.1 twice.1 gone
          (none_written_amiss _ _ (g.met.O.Outlet.fails_by_write w) c.requires.works) ended.flushes ended.write_failed;
    }
