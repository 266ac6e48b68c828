use Rattle.std.specs.Prelude.{List, false, length, take, true, ℕ, ◌++◌, ◌<◌, ◌≡◌}
use Rattle.nap_canon.specs.Names.{Entry, Grows, Sending, Sends, SendsAll, State, sending, start, walk}
use Rattle.nap_canon.specs.{declared.text_end.TextEnd.TextEnd, declared.text.Form.Form, declared.text.Form.TheVariants.Two}
use Rattle.nap_list.specs.declared.device.Outlet as outlet
use Rattle.nap_canon.specs.Text.{header, text_end_after_header, pieces_bytes, text_end_after, pieces, entry_pieces, text}

-- A canonical sink: its outlet, the number of bytes that it took, the form of the text and its end, and the state that
-- the next entry has to fit.
pub record Canonical (O : Type 0) : Type 0 where
  pub outlet : O
  pub written : ℕ
  pub form : Form
  pub text_end : TextEnd
  pub state : State

abbrev pub sending_of : {O : Type 0} → outlet.Ghosts O → Canonical O → Sending
sending_of o s = sending o s.outlet s.written

-- the bytes of entries after what was written
abbrev pub entry_bytes : {O : Type 0} → Canonical O → List Entry → List ℕ
entry_bytes s d = pieces_bytes s.text_end (pieces s.form s.state d)

-- the bytes of an entry after those of others
abbrev pub entry_bytes_after : {O : Type 0} → Canonical O → List Entry → Entry → List ℕ
entry_bytes_after s d e = pieces_bytes (text_end_after s.text_end (pieces s.form s.state d)) (entry_pieces s.form (walk s.state d) e)

-- a sink over this outlet, which hadn't failed, for a text in this form: the header was written, and no entry was taken
pub record StartsTextIn {O : Type 0} (form : Form) (o : outlet.Ghosts O) (w : O) (s : Canonical O) : Type 0 where
  pub begins : Sends (sending o w 0) header (o.failed s.outlet) (sending_of o s)
  pub form_is : s.form ≡ form
  pub text_end : s.text_end ≡ text_end_after_header
  pub state : s.state ≡ start

-- a sink over this outlet for canonical text: the header was written, and no entry was taken
abbrev pub StartsText : {O : Type 0} → outlet.Ghosts O → O → Canonical O → Type 0
StartsText = StartsTextIn Two

-- the outlet took the bytes of all these entries
pub record Took {O : Type 0} (o : outlet.Ghosts O) (s : Canonical O) (d : List Entry) (t : Canonical O) : Type 0 where
  pub bytes : SendsAll (sending_of o s) (entry_bytes s d) (sending_of o t)
  pub form : t.form ≡ s.form
  pub text_end : t.text_end ≡ text_end_after s.text_end (pieces s.form s.state d)
  pub state : t.state ≡ walk s.state d

-- the outlet took the bytes of all these entries, and failed during those of one more
pub record Broke {O : Type 0} (o : outlet.Ghosts O) (s : Canonical O) (d : List Entry) (e : Entry) (t : Canonical O) : Type 0 where
  pub part : ℕ
  pub less : part < length (entry_bytes_after s d e)
  pub grows : Grows (sending_of o s) (entry_bytes s d ++ take part (entry_bytes_after s d e)) (sending_of o t)
  pub failed : o.failed t.outlet ≡ true
  pub state : t.state ≡ walk s.state d

-- A canonical sink that took these entries and hasn't failed has written their canonical text.
abbrev pub WritesText : {O : Type 0} → outlet.Ghosts O → Type 0
WritesText {O = O} o = (w : O) (s t : Canonical O) (d : List Entry) → StartsText o w s → o.failed s.outlet ≡ false → Took o s d t →
    SendsAll (sending o w 0) (text d) (sending_of o t)
