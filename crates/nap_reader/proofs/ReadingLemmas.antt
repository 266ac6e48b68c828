use Rattle.nap_reader.proofs.Common.{ArePending, ArePendingBetweenCodes, ArePendingBy, ArePendingIn, Bool, Budget, Code, CodeFault, CodeSets, Continues, DrawFault, Entry, Err, Ghosts, IsDrawn, IsOpenBody, IsOpenRun, IsRefused, Kind, Leads, List, LongRun, Machine, Mode, None, Ok, OnOk, Opcode, OpenBody, OpenRun, Option, Outcome, Owes, Placed, ReadingState, Refusal, Result, RuleResult, Some, StreamFront, TakesSome, [], act, after_charge, after_drawing, all_at, ap, append-nil, append_assoc, arith, begun, between, body_front, body_front_by, bytes_of, cause_of, closed_front, code_fault, code_front, code_ranges, code_stays, cond-false, cond-true, continue, draw_fault, drawn_front, drop, drop-append_seam, drop_at, eq-eqb, false, front_by, front_in, half_read, is_operand, kept_list, kind_of, le-ltb, length, length-append, length-map, length-prefix_len, lt-ltb, map-append, opcodes_are_drawn, opened_front, outcome_by_front, outcome_from, pause, paused, pending_escape, place_at, placed_from, prefix_len-append, prepend, refl, refusal, refuse, refused_stays, rule, run_length, run_limit, shown_front, start_machine, store_limit, stream, stream_front, subst, suc, sym, take, take-append_seam, true, unfinished_by, unfinished_of, ℕ, ◌++◌, ◌+◌, ◌-◌, ◌<◌, ◌∙◌, ◌∷◌, ◌≡◌, ◌≢◌, ◌≤◌}
use Rattle.nap_codes.specs.Front as codes
use Rattle.nap_reader.specs.Stream as model
use Rattle.nap_reader.proofs.StreamLemmas.{begun-append, bytes_of-append, continue-prepend, outcome_from-append, outcome_from-front, outcome_from-left, prepend-append}
use Rattle.nap_draw.specs.Draws as draws
use Rattle.nap_reader.specs.Bodies as bodies
use Rattle.nap_reader.proofs.SpelledLemmas.{nothing_yet}

-- a list, split after one of its bytes

pub place_at-following : (xs ys : List Placed) (n i : ℕ) → n ≡ length xs + i → place_at (xs ++ ys) n ≡ place_at ys i
place_at-following [] ys n i e = ap (place_at ys) (omega arith)
place_at-following (x ∷ xs) ys n i e = let later : n ≡ suc (length xs + i) = omega arith in rw later (place_at-following xs ys (length xs + i) i refl)

bytes_past : (rest : List Placed) (x : Placed) (pending : List Placed) (half : List ℕ) → bytes_of rest ≡ half →
    bytes_of (rest ++ x ∷ pending) ≡ (half ++ x.byte ∷ []) ++ bytes_of pending
bytes_past rest x pending half is = rw (bytes_of-append rest (x ∷ pending), is, append_assoc half (x.byte ∷ []) (bytes_of pending)) refl

length_past : (rest : List Placed) (half : List ℕ) → bytes_of rest ≡ half → length half ≡ length rest
length_past rest half is = ap length (sym is) ∙ length-map rest _

pub front_at : {mode : Mode} (m : Machine) (xs : List Placed) → m.mode ≡ mode → stream_front m xs ≡ front_in mode m xs
unfolding stream_front
front_at m xs is = ap (λ (mode : Mode). front_in mode m xs) is

-- an incomplete code, which this byte completes
pub front_code : {half : List ℕ} {c : Code} {n : ℕ} {after : CodeSets} (m : Machine) (rest : List Placed) (x : Placed) (pending : List Placed) → m.mode ≡ between →
    bytes_of rest ≡ half → codes.front m.sets (half ++ x.byte ∷ []) ≡ codes.complete c n after → n ≡ length (half ++ x.byte ∷ []) →
    stream_front m (rest ++ x ∷ pending) ≡ code_front (record m { sets = after }) (kind_of c) x.place pending
front_code {half} {c} {n} {after} m rest x pending mode is e len =
    let count : n ≡ suc (length rest) = omega (arith, len, length-append half (x.byte ∷ []), length_past rest half is) in
    front_at m (rest ++ x ∷ pending) mode ∙ rw (
      bytes_past rest x pending half is,
      code_stays m.sets (half ++ x.byte ∷ []) (bytes_of pending) c n after e,
      place_at-following rest (x ∷ pending) (n - 1) 0 (omega (arith, count)),
      ap (drop n) (sym (append_assoc rest (x ∷ []) pending)) ∙ drop_at (rest ++ x ∷ []) pending n (omega (arith, count, length-append rest (x ∷ []))),
    ) refl

-- an open run and what is after it

opcode_first : (m : Machine) (rest : List Placed) (open_run : OpenRun) (run : List ℕ) (pending : List Placed) → m.mode ≡ between →
    (h : IsOpenRun rest open_run run m.sets) →
    stream_front m (rest ++ pending) ≡ opened_front m open_run.op open_run.place (h.operands ++ pending)
opcode_first m rest open_run run pending mode h =
    front_at m (rest ++ pending) mode ∙ rw (
      h.is,
      code_stays m.sets (h.opcode.byte ∷ []) (bytes_of (h.operands ++ pending)) (Code.Op open_run.op) 1 m.sets h.names,
      h.place,
    ) refl

run_continues : (operands pending : List Placed) → run_length operands ≡ length operands →
    run_length (operands ++ pending) ≡ length operands + run_length pending
run_continues operands pending all = rw (prefix_len-append is_operand operands pending, all, eq-eqb (length operands) (length operands) refl) refl

-- an open run that isn't too long ends where no operand byte follows
run_over : (m : Machine) (rest : List Placed) (open_run : OpenRun) (run : List ℕ) (pending : List Placed) → m.mode ≡ between → (h : IsOpenRun rest open_run run m.sets) → run_length pending ≡ 0 →
    stream_front m (rest ++ pending) ≡ closed_front m open_run.op open_run.place h.operands pending
run_over m rest open_run run pending mode h none =
    let ends : run_length (h.operands ++ pending) ≡ length h.operands = run_continues h.operands pending h.all ∙ omega (arith, none) in
    let short = le-ltb run_limit (length h.operands) (omega (arith, h.short, ap length h.words, length-map h.operands (λ (x : Placed). x.byte - 64))) in
    opcode_first m rest open_run run pending mode h ∙ rw (ends, take-append_seam h.operands pending, drop-append_seam h.operands pending, short) refl

-- an open run is over at a byte that is no operand byte
pub front_run : (m : Machine) (rest : List Placed) (open_run : OpenRun) (run : List ℕ) (x : Placed) (pending : List Placed) → m.mode ≡ between →
    IsOpenRun rest open_run run m.sets → is_operand x ≡ false →
    stream_front m (rest ++ x ∷ pending) ≡ drawn_front m open_run.place (x ∷ pending) (rule m.work open_run.op run)
front_run m rest open_run run x pending mode h other =
    run_over m rest open_run run (x ∷ pending) mode h (rw other refl) ∙ ap (λ (run : List ℕ). drawn_front m open_run.place (x ∷ pending) (rule m.work open_run.op run)) h.words

-- An open run waits for further bytes.
pub open_run_pauses : (m : Machine) (rest : List Placed) (open_run : OpenRun) (run : List ℕ) → m.mode ≡ between → IsOpenRun rest open_run run m.sets →
    stream_front m rest ≡ pause (model.open_run open_run.op open_run.place run)
open_run_pauses m rest open_run run mode h =
    ap (stream_front m) (sym (append-nil rest)) ∙ run_over m rest open_run run [] mode h refl ∙ ap (λ (run : List ℕ). pause (model.open_run open_run.op open_run.place run)) h.words

-- An incomplete code waits for further bytes.
pub half_read_pauses : (m : Machine) (rest : List Placed) (half : List ℕ) → m.mode ≡ between → bytes_of rest ≡ half →
    codes.front m.sets half ≡ codes.unfinished → stream_front m rest ≡ pause (half_read half)
half_read_pauses m rest half mode is e =
    front_at m rest mode ∙ ap (front_by m rest) (ap (codes.front m.sets) is ∙ e) ∙ ap (λ (bs : List ℕ). pause (half_read bs)) is

-- a list taken after another is one list taken
abbrev pub TookMore : {S : Type 0} → Ghosts S → Type 0
TookMore {S} g = (s t u : S) (d e : List Entry) → g.took s d t → g.took t e u → g.took s (d ++ e) u

-- memory that is wanted after a list is wanted for both
abbrev pub WantsMore : {S : Type 0} → Ghosts S → Type 0
WantsMore {S} g = (s t : S) (d e f : List Entry) → g.took s d t → g.wants t e → g.wants s (d ++ (e ++ f))

-- a list takes all
pub list_more : TookMore kept_list
list_more s t u d e first then = then ∙ ap (λ (es : List Entry). es ++ e) first ∙ append_assoc s d e

-- what a sink reports of what it took: a failure that came after a list was taken, and what is wanted after one
pub record Lawful {S : Type 0} (g : Ghosts S) : Type 0 where
  pub more : TookMore g
  pub broken : (s t u : S) (d e : List Entry) (x : Entry) → g.took s d t → g.broke t e x u → g.broke s (d ++ e) x u
  pub wants : WantsMore g
  pub none : (s : S) → g.took s [] s

-- between two codes
pub is_between : (h : ReadingState) (rest : List Placed) → h.open_body ≡ None → ArePending rest h → ArePendingBetweenCodes rest h
is_between h rest no_body retained = subst (ArePendingIn rest h) no_body retained

-- the end of a body isn't seen yet
escape_waits : (space : ℕ) (escape : Option ℕ) → body_front space (bytes_of (pending_escape escape)) ≡ bodies.unfinished
unfolding body_front
escape_waits space escape = grind arith

open_body_waits : (rest : List Placed) (body : OpenBody) (h : ReadingState) → IsOpenBody rest body h →
    body_front (store_limit - h.machine.stored) (bytes_of rest) ≡ bodies.unfinished
open_body_waits rest body h k =
    let next = bytes_of (pending_escape body.escape) in
    let none = append-nil next in
    rw (k.is, bytes_of-append k.bytes (pending_escape body.escape), k.body, ← none, k.are_of_body [], none, escape_waits (store_limit - h.machine.stored - length h.body) body.escape) refl

-- pending bytes wait for further ones
pub pending_waits : (h : ReadingState) (rest : List Placed) → ArePending rest h → stream_front h.machine rest ≡ pause (unfinished_of h)
pending_waits h rest retained = in_mode h.open_body retained
  where
    at : (open_run : Option OpenRun) → h.machine.mode ≡ between → ArePendingBy rest h open_run →
        stream_front h.machine rest ≡ pause (unfinished_by None open_run h.half h.run)
    at None mode k = half_read_pauses h.machine rest h.half mode k.0 k.1
    at (Some open_run) mode k = open_run_pauses h.machine rest open_run h.run mode k.0

    in_mode : (body : Option OpenBody) → ArePendingIn rest h body → stream_front h.machine rest ≡ pause (unfinished_by body h.open_run h.half h.run)
    in_mode None k = at h.open_run k.mode k.half
    in_mode (Some body) k = front_at h.machine rest k.mode ∙ ap (body_front_by h.machine body.name body.show rest) (open_body_waits rest body h k)

pub is_open_run : (h : ReadingState) (rest : List Placed) (open_run : OpenRun) → h.open_body ≡ None → h.open_run ≡ Some open_run → ArePending rest h →
    IsOpenRun rest open_run h.run h.machine.sets × (h.half ≡ [])
is_open_run h rest open_run no_body is retained = subst (ArePendingBy rest h) is (is_between h rest no_body retained).half

-- a rule that is refused is no break
pub refused_by : {S : Type 0} (g : Ghosts S) (t u : S) (by : Result RuleResult DrawFault) (fault : DrawFault) → draws.DrawsBy g.took g.broke g.failed by t u fault (draws.draw_cause fault) → cause_of (draw_fault fault) ≡ stream → (by ≡ Err fault) × (u ≡ t)
refused_by g t u by fault drew own = grind arith

module _ {S : Type 0} {g : Ghosts S} {s : S} {o : Outcome} {t : S} {owed : List Entry} {h : ReadingState} {pending : List Placed} (k : Owes g s o t owed h pending) where
  -- the outcome, by the front of the pending and the next bytes
  pub by_front : (f : StreamFront) → stream_front h.machine (k.rest ++ pending) ≡ f → o ≡ prepend k.done (prepend owed (outcome_by_front outcome_from h.machine (k.rest ++ pending) f))
  by_front f e = search (arith, outcome_from-front)

  -- other bytes are pending or come next, other entries are owed, and nothing more was taken
  abbrev pub leads_as : {then : List Entry} (whole : Outcome) (h' : ReadingState) (rest ys : List Placed) → ArePending rest h' → whole ≡ prepend k.done (prepend then (outcome_from h'.machine (rest ++ ys))) → Owes g s whole t then h' ys
  leads_as whole h' rest ys retained leads = record { done = k.done; taken = k.taken; clear = k.clear; rest = rest; retained = retained; leads = leads }

  -- the front acts, its entries are owed, and then nothing is pending
  pub leads_past : (es : List Entry) (h' : ReadingState) (ys : List Placed) → ArePending [] h' → stream_front h.machine (k.rest ++ pending) ≡ act es h'.machine ys → Owes g s o t (owed ++ es) h' ys
  leads_past es h' ys retained e = leads_as o h' [] ys retained (by_front (act es h'.machine ys) e ∙ ap (prepend k.done) (sym (prepend-append owed es (outcome_from h'.machine ys))))

  -- the sink takes what it is owed
  pub pays : {u : S} → TookMore g → g.took t owed u → (g.failed t ≡ false → g.failed u ≡ false) → Continues g s o u h pending
  pays {u} law took clear = record {
    done = k.done ++ owed;
    taken = law s t u k.done owed k.taken took;
    clear = λ before. clear (k.clear before);
    rest = k.rest;
    retained = k.retained;
    leads = k.leads ∙ sym (prepend-append k.done owed (outcome_from h.machine (k.rest ++ pending)));
  }

  -- a list has the entries that the sink took, and those that it is owed
  abbrev pub as_list : Leads o (k.done ++ owed) h pending
  as_list = record {
    done = k.done ++ owed;
    taken = refl;
    clear = λ before. before;
    rest = k.rest;
    retained = k.retained;
    leads = k.leads ∙ sym (prepend-append k.done owed (outcome_from h.machine (k.rest ++ pending)));
  }

module _ {S : Type 0} {g : Ghosts S} {s : S} {o : Outcome} {t : S} {h : ReadingState} {pending : List Placed} (k : Continues g s o t h pending) where
  -- the front acts, and then nothing is pending
  pub leads_on : (u : S) (es : List Entry) (h' : ReadingState) (ys : List Placed) → TookMore g → ArePending [] h' →
      stream_front h.machine (k.rest ++ pending) ≡ act es h'.machine ys → g.took t es u → (g.failed t ≡ false → g.failed u ≡ false) →
      Continues g s o u h' ys
  leads_on u es h' ys law retained e took clear = pays (leads_past k es h' ys retained e) law took clear

  -- the front is refused
  pub leads_to_refusal : (r : Refusal) → stream_front h.machine (k.rest ++ pending) ≡ refuse r → IsRefused g s o t h r
  leads_to_refusal r e =
      let is = by_front k (refuse r) e in (
        ap (λ (x : Outcome). x.refusal) is,
        subst (λ (es : List Entry). g.took s es t) (sym (ap (λ (x : Outcome). x.entries) is ∙ append-nil k.done)) k.taken,
        ap (λ (x : Outcome). x.machine.left) is,
      )

  -- the front is a body that comes next
  pub leads_shown : (m : Machine) (place : ℕ) (bytes : List ℕ) (ys : List Placed) → stream_front h.machine (k.rest ++ pending) ≡ shown_front m place bytes ys →
      length bytes ≤ m.left → (h' : ReadingState) → h'.machine ≡ after_charge m (length bytes) → ArePending [] h' → Continues g s o t h' (all_at place bytes ++ ys)
  leads_shown m place bytes ys e few h' same retained = leads_past k [] h' (all_at place bytes ++ ys) retained (search (arith, cond-false, le-ltb))

  -- the front is a body that can't be charged
  pub leads_budget : (m : Machine) (place : ℕ) (bytes : List ℕ) (ys : List Placed) → stream_front h.machine (k.rest ++ pending) ≡ shown_front m place bytes ys →
      m.left < length bytes → IsRefused g s o t h (refusal Budget place)
  leads_budget m place bytes ys e many = search (arith, leads_to_refusal, cond-true, lt-ltb)

  -- the rule of the front is refused
  pub leads_to_fault : (u : S) (m : Machine) (place : ℕ) (ys : List Placed) (by : Result RuleResult DrawFault) → stream_front h.machine (k.rest ++ pending) ≡ drawn_front m place ys by →
      (fault : DrawFault) → draws.DrawsBy g.took g.broke g.failed by t u fault (draws.draw_cause fault) → cause_of (draw_fault fault) ≡ stream →
      IsRefused g s o u h (refusal (draw_fault fault) place)
  leads_to_fault u m place ys by at fault drew own = grind (arith, refused_by, leads_to_refusal)

-- the outcome of pending bytes and those after them, by itself
abbrev pub by_itself : (rest : List Placed) (h : ReadingState) (pending : List Placed) → ArePending rest h → Leads (outcome_from h.machine (rest ++ pending)) [] h pending
by_itself rest h pending retained = record { done = []; taken = refl; clear = λ before. before; rest = rest; retained = retained; leads = refl }

-- the first of the next bytes become pending
pub leads_shift : {S : Type 0} {g : Ghosts S} {s : S} {o : Outcome} {t : S} {h : ReadingState} {x : Placed} {pending : List Placed} (k : Continues g s o t h (x ∷ pending)) (h' : ReadingState) →
    h'.machine ≡ h.machine → ArePending (k.rest ++ x ∷ []) h' → Continues g s o t h' pending
leads_shift {o = o} {x = x} {pending = pending} k h' same retained = leads_as k o h' (k.rest ++ x ∷ []) pending retained (rw (same, append_assoc k.rest (x ∷ []) pending) k.leads)

module _ {S : Type 0} {g : Ghosts S} {s : S} {o : Outcome} {t : S} {owed : List Entry} {h : ReadingState} (k : Owes g s o t owed h []) where
  -- no complete code is pending, and no byte comes next
  pub leads_paused : o ≡ prepend k.done (prepend owed (paused h.machine k.rest (Some (unfinished_of h))))
  leads_paused = search (arith, append-nil, outcome_from-front, pending_waits)

  pub leads_unrefused : o.refusal ≡ None
  leads_unrefused = ap (λ (x : Outcome). x.refusal) leads_paused

  pub leads_machine : o.machine ≡ h.machine
  leads_machine = ap (λ (x : Outcome). x.machine) leads_paused

module _ {S : Type 0} {g : Ghosts S} {s : S} {o : Outcome} {t : S} {h : ReadingState} (k : Continues g s o t h []) where
  pub leads_entries : o.entries ≡ k.done
  leads_entries = ap (λ (x : Outcome). x.entries) (leads_paused k) ∙ append-nil k.done

  pub leads_taken : g.took s o.entries t
  leads_taken = subst (λ (es : List Entry). g.took s es t) (sym leads_entries) k.taken

-- no more is left to charge in the outcome than in the reading state
pub leads_left : {S : Type 0} {g : Ghosts S} {s : S} {o : Outcome} {t : S} {owed : List Entry} {h : ReadingState} {pending : List Placed} → Owes g s o t owed h pending → o.machine.left ≤ h.machine.left
leads_left {h = h} {pending = pending} k = search (arith, outcome_from-left)

-- more of the stream has come
unfoldable pub leads_more : {S : Type 0} {g : Ghosts S} {s : S} {t : S} {owed : List Entry} {h : ReadingState} {pending : List Placed} (budget : ℕ) (p q : List ℕ) →
    Owes g s (begun budget p) t owed h pending → Owes g s (begun budget (p ++ q)) t owed h (pending ++ placed_from (length p) q)
leads_more {owed = owed} {h = h} {pending = pending} budget p q k =
    let more = placed_from (length p) q in
    let rest : Outcome = outcome_from h.machine (k.rest ++ pending) in
    leads_as k (begun budget (p ++ q)) h k.rest (pending ++ more) k.retained (begun-append budget p q
    ∙ ap (λ (o : Outcome). continue outcome_from o more) k.leads ∙ continue-prepend outcome_from k.done (prepend owed rest) more
    ∙ ap (prepend k.done) (continue-prepend outcome_from owed rest more
    ∙ ap (prepend owed) (sym (outcome_from-append h.machine (k.rest ++ pending) more) ∙ ap (outcome_from h.machine) (append_assoc k.rest pending more))))

-- The entries of a sink, if not all entries after the known ones could be put.

-- a sink that has failed had failed before, if it works afterwards whenever it worked before
pub was_failed : {S : Type 0} (g : Ghosts S) (s t : S) → (g.failed s ≡ false → g.failed t ≡ false) → g.failed t ≡ true → g.failed s ≡ true
was_failed g s t clear set = (elim (g.failed s) as (λ (b : Bool). g.failed s ≡ b → g.failed s ≡ true) [ true ↦ λ is. is | false ↦ λ is. (let k = clear is in cc) ]) refl

-- the rule of an opcode or a code acts, and not all of its entries could be put
pub rule_part : {S : Type 0} (g : Ghosts S) (t u : S) (by : Result RuleResult DrawFault) (fault : DrawFault) → draws.DrawsBy g.took g.broke g.failed by t u fault (draws.draw_cause fault) →
    cause_of (draw_fault fault) ≢ stream → (drawn : RuleResult) × (by ≡ Ok drawn) × TakesSome g t [] drawn.entries u (cause_of (draw_fault fault))
rule_part g t u by fault drew broke = grind arith

pub rest_of_nothing : (rest : List Placed) → bytes_of rest ≡ [] → rest ≡ []
rest_of_nothing [] e = refl
rest_of_nothing (x ∷ xs) e = cc

pub opcode_of_kind : (c : Code) (op : Opcode) → kind_of c ≡ Kind.opens op → c ≡ Code.Op op
opcode_of_kind c op h = grind arith

-- an opcode that opens a run has a rule
pub opens_drawn : (sets : CodeSets) (xs : List ℕ) (c : Code) (n : ℕ) (after : CodeSets) (op : Opcode) → codes.front sets xs ≡ codes.complete c n after →
    kind_of c ≡ Kind.opens op → IsDrawn op
opens_drawn sets xs c n after op e kind = search (arith, opcodes_are_drawn, opcode_of_kind, code_ranges)

pub on_ok_by : {A E P : Type 0} (r : Result A E) → ((a : A) → r ≡ Ok a → P) → OnOk r P
on_ok_by r h = grind arith

pub is_half : (h : ReadingState) (rest : List Placed) → h.open_body ≡ None → h.open_run ≡ None → ArePending rest h →
    (bytes_of rest ≡ h.half) × (codes.front h.machine.sets h.half ≡ codes.unfinished)
is_half h rest no_body is retained = subst (ArePendingBy rest h) is (is_between h rest no_body retained).half

-- nothing is pending between two codes
pub holds_nothing : (h : ReadingState) → h.open_body ≡ None → h.machine.mode ≡ between → h.body ≡ [] → h.open_run ≡ None → h.half ≡ [] → ArePending [] h
holds_nothing h no_body mode empty is none = search (arith, nothing_yet)

-- a byte after an open run
module _ {S : Type 0} {g : Ghosts S} {s : S} {o : Outcome} {t : S} {h : ReadingState} {open_run : OpenRun} {x : Placed} {pending : List Placed} (no_body : h.open_body ≡ None) (is : h.open_run ≡ Some open_run)
    (k : Continues g s o t h (x ∷ pending)) where
  half_of : ArePendingBetweenCodes k.rest h
  half_of = is_between h k.rest no_body k.retained

  open_of : IsOpenRun k.rest open_run h.run h.machine.sets × (h.half ≡ [])
  open_of = is_open_run h k.rest open_run no_body is k.retained

  -- the byte is a word that joins the run
  pub word_joins : is_operand x ≡ true → length h.run < run_limit → Continues g s o t (record h { run = h.run ++ (x.byte - 64) ∷ [] }) pending
  word_joins word few =
      let r = open_of.0 in
      let joined : IsOpenRun (k.rest ++ x ∷ []) open_run (h.run ++ (x.byte - 64) ∷ []) h.machine.sets = record {
        opcode = r.opcode;
        operands = r.operands ++ x ∷ [];
        is = ap (λ (xs : List Placed). xs ++ x ∷ []) r.is;
        place = r.place;
        names = r.names;
        words = map-append (λ (x : Placed). x.byte - 64) r.operands (x ∷ []) ∙ ap (λ (ws : List ℕ). ws ++ (x.byte - 64) ∷ []) r.words;
        all = run_continues r.operands (x ∷ []) r.all ∙ rw (word, length-append r.operands (x ∷ [])) refl;
        short = omega (arith, length-append h.run ((x.byte - 64) ∷ []), few);
      } in
      leads_shift k (record h { run = h.run ++ (x.byte - 64) ∷ [] }) refl (rw no_body (record { mode = half_of.mode; body = half_of.body; half = rw is (joined, open_of.1) }))

  -- the byte is an operand too many
  pub word_too_many : is_operand x ≡ true → run_limit ≤ length h.run → IsRefused g s o t h (refusal LongRun open_run.place)
  word_too_many word many =
      let operands = open_of.0.operands in
      let one : run_length (x ∷ pending) ≡ 1 + run_length pending = rw word refl in
      let long : run_limit < length (take (run_length (operands ++ x ∷ pending)) (operands ++ x ∷ pending)) =
      omega (arith, length-prefix_len is_operand (operands ++ x ∷ pending), run_continues operands (x ∷ pending) open_of.0.all, one, many, ap length open_of.0.words, length-map operands (λ (x : Placed). x.byte - 64)) in
      leads_to_refusal k _ (opcode_first h.machine k.rest open_run h.run (x ∷ pending) half_of.mode open_of.0 ∙ rw (lt-ltb run_limit _ long) refl)

  -- the byte ends the run
  pub over : is_operand x ≡ false → (by : Result RuleResult DrawFault) → rule h.machine.work open_run.op h.run ≡ by →
      stream_front h.machine (k.rest ++ x ∷ pending) ≡ drawn_front h.machine open_run.place (x ∷ pending) by
  over other by e = search (arith, front_run)

  -- nothing is pending once the run's opcode has acted
  pub none_pending : (m : Machine) → m.mode ≡ h.machine.mode → ArePending [] (record h { machine = m; open_run = None; run = [] })
  none_pending m mode = holds_nothing (record h { machine = m; open_run = None; run = [] }) no_body (mode ∙ half_of.mode) half_of.body refl open_of.1

  -- the run's opcode acts, and its entries are owed
  pub run_past : is_operand x ≡ false → (drawn : RuleResult) → rule h.machine.work open_run.op h.run ≡ Ok drawn →
      Owes g s o t drawn.entries (record h { machine = after_drawing h.machine drawn; open_run = None; run = [] }) (x ∷ pending)
  run_past other drawn by =
      leads_past k drawn.entries (record h { machine = after_drawing h.machine drawn; open_run = None; run = [] }) (x ∷ pending) (none_pending (after_drawing h.machine drawn) refl) (over other _ by)

-- a byte while no run is open
module _ {S : Type 0} {g : Ghosts S} {s : S} {o : Outcome} {t : S} {h : ReadingState} {x : Placed} {pending : List Placed} (no_body : h.open_body ≡ None) (is : h.open_run ≡ None) (k : Continues g s o t h (x ∷ pending)) where
  pub between_pending : ArePendingBetweenCodes k.rest h
  between_pending = is_between h k.rest no_body k.retained

  pub half_pending : (bytes_of k.rest ≡ h.half) × (codes.front h.machine.sets h.half ≡ codes.unfinished)
  half_pending = is_half h k.rest no_body is k.retained

  -- the byte's code is still incomplete
  pub code_continues : codes.front h.machine.sets (h.half ++ x.byte ∷ []) ≡ codes.unfinished → Continues g s o t (record h { half = h.half ++ x.byte ∷ [] }) pending
  code_continues e =
      leads_shift k (record h { half = h.half ++ x.byte ∷ [] }) refl (rw no_body (record {
        mode = between_pending.mode;
        body = between_pending.body;
        half = rw is (bytes_of-append k.rest (x ∷ []) ∙ ap (λ (bs : List ℕ). bs ++ x.byte ∷ []) half_pending.0, e);
      }))

  -- the byte is refused
  pub byte_refused : (fault : CodeFault) (i : ℕ) → codes.front h.machine.sets (h.half ++ x.byte ∷ []) ≡ codes.refused fault i →
      i ≡ length h.half → IsRefused g s o t h (refusal (code_fault fault) x.place)
  byte_refused fault i e at =
      leads_to_refusal k _ (front_at h.machine (k.rest ++ x ∷ pending) between_pending.mode ∙ rw (
        bytes_past k.rest x pending h.half half_pending.0,
        refused_stays h.machine.sets (h.half ++ x.byte ∷ []) (bytes_of pending) fault i e,
        place_at-following k.rest (x ∷ pending) i 0 (omega (arith, at, length_past k.rest h.half half_pending.0)),
      ) refl)

  -- the byte ends a code
  pub code_ends : (c : Code) (n : ℕ) (after : CodeSets) → codes.front h.machine.sets (h.half ++ x.byte ∷ []) ≡ codes.complete c n after → n ≡ length (h.half ++ x.byte ∷ []) →
      stream_front h.machine (k.rest ++ x ∷ pending) ≡ code_front (record h.machine { sets = after }) (kind_of c) x.place pending
  code_ends c n after e len = front_code h.machine k.rest x pending between_pending.mode half_pending.0 e len

  -- the byte ends a code, and nothing is pending then
  pub code_over : (h' : ReadingState) → h'.open_body ≡ None → h'.machine.mode ≡ h.machine.mode → h'.body ≡ h.body → h'.open_run ≡ None → h'.half ≡ [] → ArePending [] h'
  code_over h' no_body' mode body is' none = holds_nothing h' no_body' (mode ∙ between_pending.mode) (body ∙ between_pending.body) is' none

  -- an opcode opens a run, with no incomplete code before it
  pub run_opens : (op : Opcode) → h.half ≡ [] → codes.front h.machine.sets (x.byte ∷ []) ≡ codes.complete (Code.Op op) 1 h.machine.sets →
      Continues g s o t (record h { half = []; open_run = Some (record { op = op; place = x.place }); run = [] }) pending
  run_opens op none alone =
      let opened : OpenRun = record { op = op; place = x.place } in
      let run : IsOpenRun (x ∷ []) opened [] h.machine.sets = record { opcode = x; operands = []; is = refl; place = refl; names = alone; words = refl; all = refl; short = omega arith } in
      leads_shift k (record h { half = []; open_run = Some opened; run = [] }) refl
      (rw (no_body, rest_of_nothing k.rest (half_pending.0 ∙ none)) (record { mode = between_pending.mode; body = between_pending.body; half = (run, refl) }))

-- a reader that was fed nothing
pub begins : {S : Type 0} (g : Ghosts S) (s : S) (budget left : ℕ) → left ≡ budget → g.took s [] s →
    Continues g s (begun budget []) s
    (record { machine = record (start_machine budget) { left = left }; half = []; open_run = None; run = []; open_body = None; body = [] }) []
unfolding placed_from
begins g s budget left same none = search (arith, nothing_yet)
