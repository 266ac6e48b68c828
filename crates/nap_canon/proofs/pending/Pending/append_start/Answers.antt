use Rattle.nap_canon.proofs.{AppendsCommands, AppendsPieces, Attributes, Drawing, JoinedEntries.next_typed, Sinks.first_holds, Texts.both_appended, Texts.one_appended, ap, arith, attributes, batch_attributes, command_piece, map, prelude, refl, sized_text, spelling_pieces, subst, sym, with_attributes, ◌∙◌}
use Rattle.nap_canon.proofs.pending.Pending.append_start.Goals as goal

pub item-requires : goal.item-requires
item-requires c = omega (arith, c.requires.some, sized_text _ _ _ _ _ c.in-Text.is)

pub returns-in-Text : goal.returns-in-Text
returns-in-Text c s same e es is =
    let form = c.args.form in
    let d = c.args.old.now in
    let batch = c.args.batch.now in
    let w = c.args.self.now in
    let m = c.append_text_prelude.new.self in
    let t = c.append_text_byte.new.self in
    let text = c.in-Text in
    both_appended (map command_piece (prelude s.drawing (attributes e))) (spelling_pieces form (with_attributes s.drawing (attributes e)) e) refl
    (subst (λ (d : Drawing). AppendsCommands (prelude d (attributes e)) w m) (sym same)
    (subst (λ (h : Attributes). AppendsCommands (prelude d h) w m) (sym (ap batch_attributes text.is) ∙ first_holds batch e es is) c.append_text_prelude.ensures.appends))
    (subst (λ (d : Drawing). AppendsPieces (spelling_pieces form (with_attributes d (attributes e)) e) m t) (sym same)
    (one_appended (next_typed form d 0 text.is c.item.ensures e es is) c.append_text_byte.ensures))
