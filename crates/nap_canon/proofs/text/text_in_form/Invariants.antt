use Rattle.nap_canon.proofs.{AllInRange, pieces, start, take, text_end_after, text_end_after_header, text_in, walk, ◌≡◌}
use Rattle.nap_canon.proofs.text.text_in_form.Given as goal

-- the text of the entries so far
abbrev pub invariant-loop-entry : goal.invariant-loop-entry
invariant-loop-entry l = record {
  text : l.sink.outlet.writer.items ≡ text_in l.fn.form (take l.entry-index l.entries);
  form_is : l.sink.form ≡ l.fn.form;
  text_end : l.sink.text_end ≡ text_end_after text_end_after_header (pieces l.fn.form start (take l.entry-index l.entries));
  state : l.sink.state ≡ walk start (take l.entry-index l.entries);
  range : AllInRange (take l.entry-index l.entries);
}
