use Rattle.std.specs.Prelude.{IsSome, List, None, length, ℕ, ◌++◌, ◌↔◌, ◌≡◌, ◌≤◌}
use Rattle.nap_canon.specs.Names.{AllFit, AllInRange, Entry, Fits, Legal, OperandLengths, attributes, begun, means, start, start_sets, walk, with_attributes, with_run}
use Rattle.nap_canon.specs.{declared.text.Form.Form, Acting.AllActUnderEightAndFour, Preludes.prelude, Commands.effects, Plain.IsPlain, Streams.IsAccepted, Streams.list_of, Streams.IsCanonicalOf}
use Rattle.nap_canon.specs.Text.{gl_of, text_end_after_header, text_in, text, text1, pieces_bytes, pieces, text_end_after}

-- The prelude of an entry that fits makes its attributes current.
abbrev pub PreludeLeads : Type 0
PreludeLeads = (es : List Entry) (e : Entry) → AllFit start es → Fits (walk start es) e →
    effects (prelude (walk start es).drawing (attributes e)) (walk start es).drawing ≡ with_attributes (walk start es).drawing (attributes e)

-- The first entries of a list that fits fit too, and the text of the list in this form begins with theirs.
abbrev pub TextOfPrefix : Form → Type 0
TextOfPrefix form = (es fs : List Entry) → AllFit start (es ++ fs) →
    AllFit start es
    × (text_in form (es ++ fs) ≡ text_in form es ++ pieces_bytes (text_end_after text_end_after_header (pieces form start es)) (pieces form (walk start es) fs))

-- The text of a list that fits is plain, in this form: it uses no macro and no displacement from the pen, and one length of operands.
-- `canon` ensures that the list is in range.
abbrev pub TextIsPlain : Form → Type 0
TextIsPlain form = (es : List Entry) → AllFit start es → AllInRange es → IsPlain (text_in form es)

-- In an accepted plain stream, each opcode but DOMAIN and RESET acts under operands of eight words and four words.
abbrev pub PlainOperandLengths : Type 0
PlainOperandLengths = (budget : ℕ) (p : List ℕ) → IsPlain p → IsAccepted budget p → AllActUnderEightAndFour budget p

-- the stream is accepted with this list, and nothing is charged for it
pub record IsReadAs (budget : ℕ) (p : List ℕ) (es : List Entry) : Type 0 where
  pub accepted : IsAccepted budget p
  pub list : list_of budget p ≡ es
  pub uncharged : (means budget p).machine.left ≡ budget

-- The text of a legal list in this form is read as that list. `canon` ensures that the list is in range.
abbrev pub TextIsRead : Form → Type 0
TextIsRead form = (budget : ℕ) (es : List Entry) → Legal es → AllInRange es → IsReadAs budget (text_in form es) es

-- the operand lengths of canonical text
abbrev pub text_lengths : OperandLengths
text_lengths = record { multi = 8; single = 4 }

-- a stream is accepted so far, and once its open run has acted it has this list and the list's state; the set in GL is
-- that at the end of the text, and nothing is charged
pub record LeadsAlong (form : Form) (budget : ℕ) (p : List ℕ) (es : List Entry) : Type 0 where
  pub going : (begun budget p).refusal ≡ None
  pub unrefused : (with_run (begun budget p)).refusal ≡ None
  pub list : (with_run (begun budget p)).entries ≡ es
  pub state : (with_run (begun budget p)).machine.work.state ≡ walk start es
  pub domain : (with_run (begun budget p)).machine.work.domain ≡ text_lengths
  -- the saved operand lengths, if a definition is open
  pub saved : IsSome (walk start es).definition → (with_run (begun budget p)).machine.work.saved ≡ text_lengths
  pub sets : (with_run (begun budget p)).machine.sets ≡ record start_sets { gl = gl_of (text_end_after text_end_after_header (pieces form start es)) }
  pub uncharged : (with_run (begun budget p)).machine.left ≡ budget

-- The text of a list that fits, in this form, leads to its state, whether a definition is left open or not.
abbrev pub TextLeads : Form → Type 0
TextLeads form = (budget : ℕ) (es : List Entry) → AllFit start es → AllInRange es → LeadsAlong form budget (text_in form es) es

-- the first stream is the canonical stream of the second, and no longer
pub record Shortens (budget : ℕ) (c p : List ℕ) : Type 0 where
  pub canonical : IsCanonicalOf budget c p
  pub no_longer : length c ≤ length p

-- The text of a legal list in form 1 is a stream whose canonical stream is the text of the list, which is no longer.
abbrev pub FormsAgree : Type 0
FormsAgree = (budget : ℕ) (es : List Entry) → Legal es → AllInRange es → Shortens budget (text es) (text1 es)

-- what holds of canonical streams
pub record CanonicalStreams (budget : ℕ) : Type 0 where
  -- Canonical streams are equal exactly if their display lists are.
  pub equal : (other : ℕ) (c p d q : List ℕ) → IsCanonicalOf budget c p → IsCanonicalOf other d q →
      (c ≡ d) ↔ (list_of budget p ≡ list_of other q)
  -- A canonical stream is plain.
  pub plain : (c p : List ℕ) → IsCanonicalOf budget c p → IsPlain c
  -- A canonical stream is accepted, whatever the budget.
  pub accepted : (other : ℕ) (c p : List ℕ) → IsCanonicalOf budget c p → IsAccepted other c
  -- The display list of a canonical stream is that of the stream that it was made from.
  pub same_list : (other : ℕ) (c p : List ℕ) → IsCanonicalOf budget c p → list_of other c ≡ list_of budget p
  -- A canonical stream is its own canonical stream.
  pub own : (other : ℕ) (c p : List ℕ) → IsCanonicalOf budget c p → IsCanonicalOf other c c

-- Canonical streams are equal exactly if their display lists are; each is plain, is accepted with the list of the
-- stream that it was made from, and is its own canonical stream.
abbrev pub CanonicalStreamsAgree : Type 0
CanonicalStreamsAgree = (budget : ℕ) → CanonicalStreams budget
