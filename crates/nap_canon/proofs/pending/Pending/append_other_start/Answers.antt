use Rattle.nap_canon.proofs.{AppendsCommands, AppendsPieces, Attributes, Drawing, Sinks.first_holds, Texts.both_appended, attributes, command_piece, map, prelude, refl, spelling_pieces, subst, sym, with_attributes}
use Rattle.nap_canon.proofs.pending.Pending.append_other_start.Goals as goal

pub returns : goal.returns
returns c s same e es is =
    let form = c.args.form in
    let w = c.args.self.now in
    let m = c.append_batch_prelude.new.self in
    let t = c.append_spelling_at.new.self in
    both_appended (map command_piece (prelude s.drawing (attributes e))) (spelling_pieces form (with_attributes s.drawing (attributes e)) e) refl
    (subst (λ (d : Drawing). AppendsCommands (prelude d (attributes e)) w m) (sym same)
    (subst (λ (h : Attributes). AppendsCommands (prelude c.args.old.now h) w m) (first_holds c.args.batch.now e es is) c.append_batch_prelude.ensures.appends))
    (subst (λ (d : Drawing). AppendsPieces (spelling_pieces form (with_attributes d (attributes e)) e) m t) (sym same) (c.append_spelling_at.ensures e es is))
