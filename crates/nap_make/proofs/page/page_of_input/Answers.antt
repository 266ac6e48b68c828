use Rattle.nap_make.proofs.{Consumes-nil, DeniesInput, PageLemmas.made_none, PageLemmas.makes_page, PageLemmas.text_written, WritingTo, [], ap, Common.reading, refl, subst, sym, ◌∙◌, ◌≡◌}
use Rattle.nap_make.proofs.page.page_of_input.Goals as goal

pub returns-then-failed-clause-makes : goal.returns-then-failed-clause-makes
returns-then-failed-clause-makes g c = ([], Consumes-nil _, refl)

pub returns-in-Ok-clause-makes : goal.returns-in-Ok-clause-makes
returns-in-Ok-clause-makes g c =
    let (p, read, made_or_not) = c.make_list-sink.ensures.makes in
    let seen = reading g.I.Inlet c.args.input.now c.make_list-sink.new.input in
    let h = makes_page _ c.new-sink.result p seen c.make_list-sink.result.0 c.make_list-sink.result.1 made_or_not c.in-Ok.is in
    let works = sym c.failed.ensures ∙ c.if-failed.false in
    let empty = ap (λ (u : WritingTo _). u.writer.items) c.new-2.ensures ∙ c.new.ensures.items in
    let made = text_written _ c.new-2.result c.new-sink.result c.make_list-sink.result.0 c.new-sink.ensures works (λ u. u.writer.items) (λ u. refl) empty h.1.entries h.1.kept.took in
    let inner : c.into_inner.result.items ≡ c.close.result.writer.items = cc c.into_inner.ensures in (
      p,
      read,
      record { read = h.0; made = record { entries = h.1.entries; are = h.1.are; text_is = inner ∙ (ap (λ (u : WritingTo _). u.writer.items) c.close.ensures ∙ made) } },
    )

pub returns-in-Err-clause-makes : goal.returns-in-Err-clause-makes
returns-in-Err-clause-makes g c =
    let (p, read, made_or_not) = c.make_list-sink.ensures.makes in
    let seen = reading g.I.Inlet c.args.input.now c.make_list-sink.new.input in
    let denied = made_none _ c.new-sink.result p seen c.make_list-sink.result.0 c.make_list-sink.result.1 c.in-Err.fault made_or_not c.in-Err.is in
    (p, read, subst (DeniesInput p seen) (sym c.fault_of_input.ensures) denied)
