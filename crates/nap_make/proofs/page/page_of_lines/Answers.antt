use Rattle.nap_make.proofs.{DeniesLines, PageLemmas.puts_no_page, PageLemmas.puts_page, PageLemmas.text_written, WritingTo, ap, refl, subst, sym, ◌∙◌, ◌≡◌}
use Rattle.nap_make.proofs.page.page_of_lines.Goals as goal

pub returns-in-Ok : goal.returns-in-Ok
returns-in-Ok c =
    let h = puts_page _ c.new-sink.result c.args.lines.now c.put_lines-sink.result.0 c.put_lines-sink.result.1 c.in-Ok.count c.put_lines-sink.ensures c.in-Ok.is in
    let works = sym c.failed.ensures ∙ c.if-failed.false in
    let empty = ap (λ (u : WritingTo _). u.writer.items) c.new-2.ensures ∙ c.new.ensures.items in
    let made = text_written _ c.new-2.result c.new-sink.result c.put_lines-sink.result.0 c.new-sink.ensures works (λ u. u.writer.items) (λ u. refl) empty h.0.entries h.0.kept.took in
    let inner : c.into_inner.result.items ≡ c.close.result.writer.items = cc c.into_inner.ensures in
    (record { entries = h.0.entries; are = h.0.are; text_is = inner ∙ (ap (λ (u : WritingTo _). u.writer.items) c.close.ensures ∙ made) }, h.1)

pub returns-in-Err : goal.returns-in-Err
returns-in-Err c =
    let h = puts_no_page _ c.new-sink.result c.args.lines.now c.put_lines-sink.result.0 c.put_lines-sink.result.1 c.in-Err.fault c.put_lines-sink.ensures c.in-Err.is in
    subst (DeniesLines c.args.lines.now) (sym c.fault_of_text.ensures) h
