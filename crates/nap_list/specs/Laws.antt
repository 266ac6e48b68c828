use Rattle.std.specs.Prelude.{List, [], ℕ, ◌++◌, ◌↔◌, ◌∷◌, ◌≡◌}
use Rattle.nap_list.specs.{Names.CharSet, Entry.WellMade, Agreement.ModeZeroIsBase, Agreement.StatesAgree, Agreement.EqualCurrent}
use Rattle.nap_list.specs.Types.{Attributes, Batch, Drawing, Entry, Hand, State}
use Rattle.nap_list.specs.Batches.{EachIsCurrent, IsTextByte, batch_entries, text_entries_in, text_entry}
use Rattle.nap_list.specs.State.{start, with_attributes, after, walk, AllFit, Legal, IsIllegalAt}

-- the walk of two lists joined is the walk of the second from where the first ends
abbrev pub WalksJoin : Type 0
WalksJoin = (s : State) (xs ys : List Entry) → walk s (xs ++ ys) ≡ walk (walk s xs) ys

-- two lists joined fit exactly if the first fits, and the second fits where the first ends
abbrev pub FitsJoin : Type 0
FitsJoin = (s : State) (xs ys : List Entry) → AllFit s (xs ++ ys) ↔ (AllFit s xs × AllFit (walk s xs) ys)

-- the state at the start agrees with itself
abbrev pub StartAgrees : Type 0
StartAgrees = StatesAgree start start

-- applying attributes that are all current changes nothing, if a colour of mode 0 is the base
abbrev pub CurrentAttributesChangeNothing : Type 0
CurrentAttributesChangeNothing = (h : Attributes) (d : Drawing) → EqualCurrent h d → ModeZeroIsBase d.base d.colour → with_attributes d h ≡ d

-- a legal list is illegal at no index
abbrev pub LegalIsNowhereIllegal : Type 0
LegalIsNowhereIllegal = (es : List Entry) (index : ℕ) → Legal es → IsIllegalAt index es → ⊥

-- after the first entry of a batch, the attributes of each further one are current when it comes
abbrev pub BatchIsCurrent : Type 0
BatchIsCurrent = (batch : Batch) (s : State) (e : Entry) (es : List Entry) → batch_entries batch ≡ e ∷ es → EachIsCurrent (after s e) es

-- a text leaves the state that its last byte leaves, with the attributes of its first
abbrev pub TextLeaves : Type 0
TextLeaves = (s : State) (set : CharSet) (hand : Hand) (codes prefix : List ℕ) (last : ℕ) → codes ≡ prefix ++ last ∷ [] →
    walk s (text_entries_in set hand codes) ≡ after s (text_entry set hand last)

-- each byte of a text gives a well-made entry
abbrev pub TextEntriesAreWellMade : Type 0
TextEntriesAreWellMade = (set : CharSet) (hand : Hand) (code : ℕ) → IsTextByte code → WellMade (text_entry set hand code)
