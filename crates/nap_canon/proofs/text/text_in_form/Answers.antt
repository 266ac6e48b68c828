use Rattle.nap_canon.proofs.{All-more, All-nil, Canonical, Entry, Fits, Form, InRange, List, Piece, Sinks.header_sent, State, TextEnd, Texts.fits_at, Texts.text_end_more, Texts.text_more, Texts.walk_more, [], after, ap, append-nil, arith, entry_pieces, pieces, pieces_bytes, start, subst, sym, take, text_end_after, text_in, walk, ℕ, ◌++◌, ◌∙◌, ◌∷◌, ◌≡◌}
use Rattle.nap_canon.proofs.text.text_in_form.Goals as goal

alone : (form : Form) (s : State) (e : Entry) → pieces form s (e ∷ []) ≡ entry_pieces form s e
unfolding pieces
alone form s e = append-nil (entry_pieces form s e)

-- the pieces of one more entry, in terms of the text
next_pieces : {O : Type 0} (form : Form) (u : Canonical O) (so_far : State) (e : Entry) → u.form ≡ form → u.state ≡ so_far → pieces u.form u.state (e ∷ []) ≡ entry_pieces form so_far e
next_pieces form u so_far e same state = grind (arith, alone)

pub loop-entry-init : goal.loop-entry-init
unfolding pieces pieces_bytes text_end_after walk
loop-entry-init c = grind (arith, header_sent, All-nil)

pub put_ref-requires : goal.put_ref-requires
put_ref-requires c =
    subst (λ (s : State). Fits s c.entry-item.result) (sym c.loop-entry.invariant.state)
    (fits_at c.args.entries.now c.loop-entry.entry-index c.entry-item.result c.loop-entry-test.true c.entry-item.is c.requires)

pub loop-entry-preserved : goal.loop-entry-preserved
loop-entry-preserved c =
    let form = c.args.form in
    let es = c.args.entries.now in
    let i = c.loop-entry.entry-index in
    let e = c.entry-item.result in
    let within = c.loop-entry-test.true in
    let is = c.entry-item.is in
    let sink = c.loop-entry.sink in
    let so_far = walk start (take i es) in
    let took = c.in-Ok.ensures.took in
    let next = next_pieces form sink so_far e c.loop-entry.invariant.form_is c.loop-entry.invariant.state in
    record {
      text =
          took.bytes.grows.taken
          ∙ ap (λ (bs : List ℕ). bs ++ pieces_bytes sink.text_end (pieces sink.form sink.state (e ∷ []))) c.loop-entry.invariant.text
          ∙ ap (λ (ps : List Piece). text_in form (take i es) ++ pieces_bytes sink.text_end ps) next
          ∙ ap (λ (t : TextEnd). text_in form (take i es) ++ pieces_bytes t (entry_pieces form so_far e)) c.loop-entry.invariant.text_end
          ∙ text_more form es i e within is;
      form_is = took.form ∙ c.loop-entry.invariant.form_is;
      text_end =
          took.text_end
          ∙ ap (text_end_after sink.text_end) next
          ∙ ap (λ (t : TextEnd). text_end_after t (entry_pieces form so_far e)) c.loop-entry.invariant.text_end
          ∙ text_end_more form es i e within is;
      state = c.in-Ok.ensures.after ∙ ap (λ (t : State). after t e) c.loop-entry.invariant.state ∙ walk_more es i e within is;
      range = All-more InRange es i e within c.loop-entry.invariant.range (subst InRange is c.in_range.ensures);
    }
