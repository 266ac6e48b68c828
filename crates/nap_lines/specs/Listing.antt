use Rattle.std.proofs.Common.{ℕ, ◌≡◌, List, [], ◌∷◌, ◌++◌, flat_map, refl, ap, sym, ◌∙◌, append-nil, append_assoc}
use Rattle.nap_list.specs.{declared.entry.Entry.Entry, declared.state.State.State, State.walk}
use Rattle.nap_list.proofs.PublicLaws.{walks_join}
use Rattle.nap_lines.specs.Lines.{line}

-- the lines of a list, each with LF
abbrev pub lines : List Entry → List ℕ
lines entries = flat_map (λ entry. line entry ++ 10 ∷ []) entries

-- a sink of lines: its text, and the state that the next entry has to fit
pub record LineSinkState : Type 0 where
  pub text : List ℕ
  pub state : State

-- A sink took these entries and appended their lines.
pub record TakesLinesOf (s : LineSinkState) (d : List Entry) (t : LineSinkState) : Type 0 where
  pub text : t.text ≡ s.text ++ lines d
  pub state : t.state ≡ walk s.state d

-- The members of the trait for a sink of lines.

pub lists_none : (s : LineSinkState) → TakesLinesOf s [] s
unfolding walk
lists_none s = record { text = sym (append-nil s.text); state = refl }

pub lines_join : (d e : List Entry) → lines (d ++ e) ≡ lines d ++ lines e
lines_join [] e = refl
lines_join (x ∷ d) e =
    ap (λ (bytes : List ℕ). (line x ++ 10 ∷ []) ++ bytes) (lines_join d e) ∙ sym (append_assoc (line x ++ 10 ∷ []) (lines d) (lines e))

pub lists_more : (s t u : LineSinkState) (d e : List Entry) → TakesLinesOf s d t → TakesLinesOf t e u → TakesLinesOf s (d ++ e) u
lists_more s t u d e first second = record {
  text =
      second.text
      ∙ ap (λ (bytes : List ℕ). bytes ++ lines e) first.text
      ∙ append_assoc s.text (lines d) (lines e)
      ∙ ap (λ (bytes : List ℕ). s.text ++ bytes) (sym (lines_join d e));
  state = second.state ∙ ap (λ (state : State). walk state e) first.state ∙ sym (walks_join s.state d e);
}
