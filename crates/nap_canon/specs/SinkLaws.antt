use Rattle.std.proofs.Common.{ℕ, ◌≡◌, ◌+◌, ◌<◌, Bool, true, false, List, [], ◌++◌, length, take, refl, ap, sym, subst, ◌∙◌, append_assoc, length-append, arith}
use Rattle.std.proofs.{lemmas.List.take-append-le, Math.Seq.take-append-add}
use Rattle.nap_canon.specs.Names.{Entry, Grows, Sending, Sends, SendsAll, State, grows_more, grows_none, walk}
use Rattle.nap_canon.specs.{declared.text_end.TextEnd.TextEnd, declared.text.Form.Form, Spelling.Piece, Text.pieces_bytes, Text.text_end_after, Text.pieces, Text.entry_pieces, TextParts.pieces_bytes-append, TextParts.text_end_after-append, TextParts.pieces-append}
use Rattle.nap_list.specs.declared.device.Outlet as outlet
use Rattle.nap_list.proofs.PublicLaws.{walks_join}
use Rattle.nap_canon.specs.Sinking.{Canonical, sending_of, entry_bytes, entry_bytes_after, Took, Broke}

-- laws of sending: no bytes, and bytes after others

pub sends_none : (s : Sending) → Sends s [] false s
sends_none s = record { grows = grows_none s; failed = refl }

pub sends_more : (s t u : Sending) (a b : List ℕ) (broke : Bool) → Sends s a false t → Sends t b broke u → Sends s (a ++ b) broke u
sends_more s t u a b false first second = record { grows = grows_more s t u a b first.grows second.grows; failed = second.failed ∙ first.failed }
sends_more s t u a b true first second = record {
  part = length a + second.part;
  less = omega (arith, length-append a b, second.less);
  grows = subst (λ (bytes : List ℕ). Grows s bytes u) (sym (take-append-add a b second.part))
      (grows_more s t u a (take second.part b) first.grows second.grows);
  failed = second.failed;
}

pub sends_cut : (s t : Sending) (a b : List ℕ) → Sends s a true t → Sends s (a ++ b) true t
sends_cut s t a b first = record {
  part = first.part;
  less = omega (arith, length-append a b, first.less);
  grows = subst (λ (bytes : List ℕ). Grows s bytes t) (sym (take-append-le first.part a b (omega (arith, first.less)))) first.grows;
  failed = first.failed;
}

-- entries, one list after another

module _ {O : Type 0} (o : outlet.Ghosts O) where
  pub took_none : (s : Canonical O) → Took o s [] s
  unfolding pieces_bytes text_end_after pieces walk
  took_none s = record { bytes = sends_none (sending_of o s); form = refl; text_end = refl; state = refl }

  module _ (s t : Canonical O) (d : List Entry) (form : t.form ≡ s.form) (text_end : t.text_end ≡ text_end_after s.text_end (pieces s.form s.state d)) (state : t.state ≡ walk s.state d) where
    -- the pieces of the second list, in terms of the first sink
    next_join : (e : List Entry) → pieces t.form t.state e ≡ pieces s.form (walk s.state d) e
    next_join e = ap (λ (f : Form). pieces f t.state e) form ∙ ap (λ (u : State). pieces s.form u e) state

    -- the bytes of the second list come after those of the first
    bytes_join : (e : List Entry) → entry_bytes s d ++ entry_bytes t e ≡ entry_bytes s (d ++ e)
    bytes_join e =
        ap (λ (ps : List Piece). entry_bytes s d ++ pieces_bytes t.text_end ps) (next_join e)
        ∙ ap (λ (u : TextEnd). entry_bytes s d ++ pieces_bytes u (pieces s.form (walk s.state d) e)) text_end
        ∙ sym (pieces_bytes-append s.text_end (pieces s.form s.state d) (pieces s.form (walk s.state d) e))
        ∙ ap (pieces_bytes s.text_end) (sym (pieces-append s.form s.state d e))

    text_end_join : (e : List Entry) → text_end_after t.text_end (pieces t.form t.state e) ≡ text_end_after s.text_end (pieces s.form s.state (d ++ e))
    text_end_join e =
        ap (text_end_after t.text_end) (next_join e)
        ∙ ap (λ (u : TextEnd). text_end_after u (pieces s.form (walk s.state d) e)) text_end
        ∙ sym (text_end_after-append s.text_end (pieces s.form s.state d) (pieces s.form (walk s.state d) e))
        ∙ ap (text_end_after s.text_end) (sym (pieces-append s.form s.state d e))

    state_join : (e : List Entry) → walk t.state e ≡ walk s.state (d ++ e)
    state_join e = ap (λ (u : State). walk u e) state ∙ sym (walks_join s.state d e)

    next_bytes_join : (e : List Entry) (x : Entry) → entry_bytes_after t e x ≡ entry_bytes_after s (d ++ e) x
    next_bytes_join e x =
        ap (λ (u : TextEnd). pieces_bytes u (entry_pieces t.form (walk t.state e) x)) (text_end_join e)
        ∙ ap (λ (f : Form). pieces_bytes (text_end_after s.text_end (pieces s.form s.state (d ++ e))) (entry_pieces f (walk t.state e) x)) form
        ∙ ap (λ (u : State). pieces_bytes (text_end_after s.text_end (pieces s.form s.state (d ++ e))) (entry_pieces s.form u x)) (state_join e)

  pub took_more : (s t u : Canonical O) (d e : List Entry) → Took o s d t → Took o t e u → Took o s (d ++ e) u
  took_more s t u d e first second = record {
    bytes = subst (λ (bytes : List ℕ). SendsAll (sending_of o s) bytes (sending_of o u)) (bytes_join s t d first.form first.text_end first.state e)
        (sends_more (sending_of o s) (sending_of o t) (sending_of o u) (entry_bytes s d) (entry_bytes t e) false first.bytes second.bytes);
    form = second.form ∙ first.form;
    text_end = second.text_end ∙ text_end_join s t d first.form first.text_end first.state e;
    state = second.state ∙ state_join s t d first.form first.text_end first.state e;
  }

  pub took_broke : (s t u : Canonical O) (d e : List Entry) (x : Entry) → Took o s d t → Broke o t e x u → Broke o s (d ++ e) x u
  took_broke s t u d e x first second =
      let next_bytes = next_bytes_join s t d first.form first.text_end first.state e x in
      record {
        part = second.part;
        less = subst (λ (bytes : List ℕ). second.part < length bytes) next_bytes second.less;
        grows =
            let all : entry_bytes s d ++ (entry_bytes t e ++ take second.part (entry_bytes_after t e x)) ≡ entry_bytes s (d ++ e) ++ take second.part (entry_bytes_after s (d ++ e) x) =
            sym (append_assoc (entry_bytes s d) (entry_bytes t e) (take second.part (entry_bytes_after t e x)))
            ∙ ap (λ (bytes : List ℕ). bytes ++ take second.part (entry_bytes_after t e x)) (bytes_join s t d first.form first.text_end first.state e)
            ∙ ap (λ (bytes : List ℕ). entry_bytes s (d ++ e) ++ take second.part bytes) next_bytes in
            subst (λ (bytes : List ℕ). Grows (sending_of o s) bytes (sending_of o u)) all
            (grows_more (sending_of o s) (sending_of o t) (sending_of o u) (entry_bytes s d) (entry_bytes t e ++ take second.part (entry_bytes_after t e x)) first.bytes.grows second.grows);
        failed = second.failed;
        state = second.state ∙ state_join s t d first.form first.text_end first.state e;
      }
