use Rattle.nap_draw.proofs.{LastChar, Ok, Option, Outcome, Pen, State, Walks.char_left, Walks.copies_leave, Walks.copies_many, Walks.last_is_code, ap, false, repeated_chars, sym, with_pen, ◌∙◌}
use Rattle.nap_draw.proofs.work.Work.count_copies.Goals as goal

pub returns-clause-counted : goal.returns-clause-counted
returns-clause-counted g c = λ counted.
    let w = c.args.self.now in
    let last = c.args.last in
    let mode = c.requires.agrees.drawing.mode in
    let made = last_is_code w.state _ last c.requires.agrees c.requires.last in
    let list = repeated_chars w.state last c.args.count in
    let leave = λ (shown : State). copies_leave last w.state shown c.args.count mode made c.requires.some in
    let taken = c.put_alike.ensures.took c.if-not-put_alike.false list (copies_many last w.state c.args.count) (rw c.hand-hand.ensures (leave (g.S.Sink.state c.args.sink.now))) in (
      list,
      ap (λ (s : State). let all : Outcome = Ok (record { entries = list; work = record w { state = s }; clears = false }) in all) (leave w.state ∙ (char_left last w.state mode ∙ ap (λ (o : Option LastChar). record w.state { drawing = with_pen Pen.After w.state.drawing; last = o }) (sym c.requires.last))),
      taken.took,
      taken.state,
      taken.works,
    )
