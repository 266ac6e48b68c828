use Rattle.std.proofs.Common.{ℕ, ◌≡◌, ◌<◌, List, [], ◌∷◌, ◌++◌, refl, ap, sym, subst, ◌∙◌, append-nil, append_assoc}
use Rattle.nap_list.specs.declared.device.Outlet as outlet
use Rattle.nap_list.specs.{declared.entry.Entry.Entry, declared.state.State.State, Sending.Sending, Sending.grows_none, Sending.grows_more, State.walk}
use Rattle.nap_list.proofs.PublicLaws.{walks_join}
use Rattle.nap_lines.specs.Listing.{lines, lines_join}
use Rattle.nap_lines.specs.Printing.{SendsPart, Printing, sending_by, TookLines, BrokeLines, line_memory}

-- Bytes that are sent in two steps are sent.

pub passes_none : (s : Sending) (buffered : List ℕ) → SendsPart s buffered [] buffered s
passes_none s buffered = record { sent = []; parts = append-nil buffered; grows = grows_none s }

pub passes_more : (s t u : Sending) (buffered mid left a b : List ℕ) → SendsPart s buffered a mid t → SendsPart t mid b left u → SendsPart s buffered (a ++ b) left u
passes_more s t u buffered mid left a b first second = record {
  sent = first.sent ++ second.sent;
  parts =
      sym (append_assoc buffered a b)
      ∙ ap (λ (bytes : List ℕ). bytes ++ b) first.parts
      ∙ append_assoc first.sent mid b
      ∙ ap (λ (bytes : List ℕ). first.sent ++ bytes) second.parts
      ∙ sym (append_assoc first.sent second.sent left);
  grows = grows_more s t u first.sent second.sent first.grows second.grows;
}

-- more bytes are buffered, and none is sent
pub passes_on : (s t : Sending) (buffered left a b : List ℕ) → SendsPart s buffered a left t → SendsPart s buffered (a ++ b) (left ++ b) t
passes_on s t buffered left a b first = record {
  sent = first.sent;
  parts = sym (append_assoc buffered a b) ∙ ap (λ (bytes : List ℕ). bytes ++ b) first.parts ∙ append_assoc first.sent left b;
  grows = first.grows;
}

-- The members of the trait for a printer.

module _ {O : Type 0} (o : outlet.Ghosts O) where
  pub took_none : (s : Printing O) → TookLines o s [] s
  unfolding walk
  took_none s = record { passes = passes_none (sending_by o s) s.buffered; failed = refl; state = refl; space = refl }

  state_join : (s t : Printing O) (d e : List Entry) → t.state ≡ walk s.state d → walk t.state e ≡ walk s.state (d ++ e)
  state_join s t d e is = ap (λ (state : State). walk state e) is ∙ sym (walks_join s.state d e)

  pub took_more : (s t u : Printing O) (d e : List Entry) → TookLines o s d t → TookLines o t e u → TookLines o s (d ++ e) u
  took_more s t u d e first second = record {
    passes = rw (lines_join d e) (passes_more (sending_by o s) (sending_by o t) (sending_by o u) s.buffered t.buffered u.buffered (lines d) (lines e) first.passes second.passes);
    failed = second.failed ∙ first.failed;
    state = second.state ∙ state_join s t d e first.state;
    space = second.space ∙ first.space;
  }

  pub wants_more : (s t : Printing O) (d : List Entry) → TookLines o s d t → t.space < line_memory → s.space < line_memory
  wants_more s t d took few = subst (λ (n : ℕ). n < line_memory) took.space few

  pub took_broke : (s t u : Printing O) (d e : List Entry) (x : Entry) → TookLines o s d t → BrokeLines o t e x u → BrokeLines o s (d ++ e) x u
  took_broke s t u d e x first second = record {
    left = second.left;
    passes = rw (append_assoc d e (x ∷ []), lines_join d (e ++ x ∷ []))
        (passes_more (sending_by o s) (sending_by o t) (sending_by o u) s.buffered t.buffered second.left (lines d) (lines (e ++ x ∷ [])) first.passes second.passes);
    failed = second.failed;
    state = second.state ∙ state_join s t d e first.state;
  }
