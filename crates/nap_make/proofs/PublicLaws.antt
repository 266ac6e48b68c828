use Rattle.nap_make.proofs.{AreLines, Entry, IsAccepted, IsMadeOf, IsReadAs, LineTellsEntry, LinesAreBounded, LinesHaveNoEnds, LinesTellLists, List, ListsAgain, ListsTellStreams, MadePagesAgree, accepted_is_legal, ap, canonical_streams_agree, Common.lines, list_of, read_values_are_in_range, refl, subst, sym, text, text_is_read, ℕ, ◌∙◌, ◌≡◌}
pub use Rattle.nap_make.proofs.{ValueLemmas.no_cut, ValueLemmas.one_cut, ValueLemmas.uncut, PageLemmas.text_written}
use Rattle.nap_make.proofs.LawLemmas as law

-- The proofs of the laws.

-- Laws of lines.

pub line_tells_entry : LineTellsEntry
line_tells_entry = law.line_tells

pub lines_tell_lists : LinesTellLists
lines_tell_lists = law.lines_tell

pub lines_are_bounded : LinesAreBounded
lines_are_bounded = law.line_bounded

pub lines_have_no_ends : LinesHaveNoEnds
lines_have_no_ends = law.line_whole

-- Laws of the pages that lines make.

-- pages whose lists have equal lines have equal lists
equal_lists : (budget other : ℕ) (p q : List ℕ) → lines (list_of budget p) ≡ lines (list_of other q) → list_of budget p ≡ list_of other q
equal_lists budget other p q is = lines_tell_lists (list_of budget p) (list_of other q) (read_values_are_in_range budget p).1 (read_values_are_in_range other q).1 is

pub lists_tell_streams : ListsTellStreams
lists_tell_streams budget other c p d q one two =
    let equal = (canonical_streams_agree budget).equal other c p d q one two in
    (λ is. ap lines (equal.0 is), λ is. equal.1 (equal_lists budget other p q is))

-- lines are those of one list
one_list : (p : List ℕ) (d e : List Entry) → AreLines p d → AreLines p e → d ≡ e
one_list p d e one two = lines_tell_lists d e one.in_range two.in_range (sym one.lines_are ∙ two.lines_are)

again : (budget : ℕ) (c p : List ℕ) → IsMadeOf c p → ListsAgain budget c p
again budget c p made =
    let read = subst (λ s. IsReadAs budget s made.entries) (sym made.text_is) (text_is_read budget made.entries made.are.legal made.are.in_range) in
    record { accepted = read.accepted; lines_are = ap lines read.list ∙ sym made.are.lines_are; uncharged = read.uncharged }

-- an accepted page has the lines of its list
own_lines : (budget : ℕ) (p : List ℕ) → IsAccepted budget p → AreLines (lines (list_of budget p)) (list_of budget p)
own_lines budget p accepted = record { legal = accepted_is_legal budget p accepted; in_range = (read_values_are_in_range budget p).1; lines_are = refl }

-- the list of a page that was made of these lines has them
listed : (budget : ℕ) (c p : List ℕ) → ListsAgain budget c p → AreLines p (list_of budget c)
listed budget c p read = record { legal = accepted_is_legal budget c read.accepted; in_range = (read_values_are_in_range budget c).1; lines_are = sym read.lines_are }

pub made_pages_agree : MadePagesAgree
made_pages_agree budget = record {
  one = λ c d p first second. first.text_is ∙ ap text (one_list p first.entries second.entries first.are second.are) ∙ sym second.text_is;
  again = again budget;
  own = λ c p made.
      let read = again budget c p made in
      record { accepted = read.accepted; text_is = made.text_is ∙ ap text (one_list p made.entries (list_of budget c) made.are (listed budget c p read)) };
  of_list = λ c p accepted. (
    λ canonical. record { entries = list_of budget p; are = own_lines budget p accepted; text_is = canonical.text_is },
    λ made. record { accepted = accepted; text_is = made.text_is ∙ ap text (one_list (lines (list_of budget p)) made.entries (list_of budget p) made.are (own_lines budget p accepted)) },
  );
}

-- What laws without answers cite.
pub ruleset laws = (lines_tell_lists, lines_are_bounded, lines_have_no_ends, made_pages_agree)
