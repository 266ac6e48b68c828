use Rattle.nap_reader.proofs.Common.{All-head, Breaks, Entry, Ghosts, HasRead, LeadsTo, List, Machine, Owes, Placed, Position, Reaches, Reader, ReadingState, Refusal, Stops, StopsAt, StopsByte, [], ap, arith, begun, budget_of, bytes_from, bytes_of, drop, fed_of, get_or, left_of, length, length-drop, placed_at, placed_from, sink_of, subst, sym, take, ℕ, ◌++◌, ◌+◌, ◌-◌, ◌<◌, ◌∙◌, ◌∷◌, ◌≡◌}
use Rattle.nap_reader.proofs.Base.{IsAt, Lawful, breaks_byte, breaks_inside, breaks_place, drop_next, leads_left, leads_machine, leads_more, leads_unrefused, length-placed, stops_then, taken_more}
use Rattle.nap_reader.proofs.PieceLemmas.{acts_before, broken_amid, leads_past, length_taken, next_placed, parts_at, stops_by}

-- The places at which the reading of a piece stops.

module _ {S : Type 0} {g : Ghosts S} {old : Reader S g} {piece : List ℕ} {at place : ℕ} {t : S} {owed : List Entry} {h : ReadingState} (new : Reader S g) (left : left_of new ≡ h.machine.left) (laws : Lawful g) where
  -- what is known with the byte that called or presented a body
  known_amid : {frames : List Placed} (i : ℕ) → LeadsTo old piece (record { frames = frames; at = at; place = place }) t owed h → at ≡ i + 1 → (s : S) (p : List ℕ) → HasRead old s p → Owes g s (begun (budget_of old) ((p ++ take i piece) ++ get_or piece i 0 ∷ [])) t owed h frames
  known_amid {frames} i leads last s p had_read = grind (arith, taken_more)

  -- The next byte is refused, or reading breaks with it.
  stops_byte : {x : Placed} {following : List Placed} {r : Refusal} (frames : List Placed) → LeadsTo old piece (record { frames = frames; at = at; place = place }) t owed h → frames ++ placed_from place (drop at piece) ≡ x ∷ following → StopsByte g t owed h x (sink_of new) r →
      fed_of new ≡ fed_of old + (at + (1 - length frames)) → (i : ℕ) × StopsAt old new piece r i
  unfolding placed_from
  stops_byte {x} {following} {r} [] leads is stops fed =
      let b = get_or piece at 0 in
      let inside : at < length piece = omega (arith, ap (λ (ys : List Placed). length ys) is, length-placed place (drop at piece), length-drop at piece) in
      let placed : x ≡ placed_at b place = ap (λ (ys : List Placed). get_or ys 0 x) (sym is ∙ next_placed piece at place inside) in (
        at,
        record {
          within = inside;
          fed = omega (arith, fed);
          before = λ s p had_read. leads_unrefused (leads.known s p had_read);
          there = λ s p had_read.
              let q = p ++ take at piece in
              let k0 = leads.known s p had_read in
              let here : placed_at b (length q) ≡ x = ap (placed_at b) (omega (arith, length_taken p piece at leads.within, had_read.fed leads.live, leads.placed)) ∙ sym placed in
              let k = subst (λ (y : Placed). Owes g s (begun (budget_of old) (q ++ b ∷ [])) t owed h (y ∷ [])) here (leads_more (budget_of old) q (b ∷ []) k0) in
              let known = ap (λ (m : Machine). m.left) (leads_machine k0) in
              stops_by s (budget_of old) q b (sink_of new) (left_of new) r (λ is. let k' = stops.own is s _ [] k in record { refusal = k'.0; taken = k'.1; left = k'.2 ∙ sym left })
              (λ is. record {
                before = leads_unrefused k0;
                breaks = breaks_byte (budget_of old) q b laws k0 is (subst (λ (y : Placed). Breaks g t owed h y (sink_of new) r) (sym here) (stops.broke is));
                left = omega (arith, left, known);
                charged = omega (arith, left, leads_left k);
              });
        },
      )
  stops_byte {x} {following} {r} (y ∷ rest) leads is stops fed =
      let (i, last, amid) = leads.amid (omega arith) in
      let inside : i < length piece = omega (arith, last, leads.within) in
      let same : y ≡ x = ap (λ (ys : List Placed). get_or ys 0 x) is in
      let stops' = subst (λ (x : Placed). StopsByte g t owed h x (sink_of new) r) (sym same) stops in (
        i,
        record {
          within = inside;
          fed = omega (arith, fed, last);
          before = λ s p had_read. leads_unrefused (amid.before s p had_read);
          there = λ s p had_read.
              let k = known_amid i leads last s p had_read in
              stops_by s (budget_of old) (p ++ take i piece) (get_or piece i 0) (sink_of new) (left_of new) r (λ is. let k' = stops'.own is s _ rest k in record { refusal = k'.0; taken = k'.1; left = k'.2 ∙ sym left })
              (λ is.
              broken_amid leads.live inside amid had_read k laws left (breaks_place (fed_of old + i) (All-head (IsAt (fed_of old + i)) y rest amid.there) amid.run (stops'.broke is))
              (λ s o k. breaks_inside laws k is (stops'.broke is)));
        },
      )

-- The bytes that come next lead to a byte that is refused or breaks: reading stops there. The bytes of the input are
-- counted up to and with this byte.
pub stops_reached : {S : Type 0} {g : Ghosts S} {old : Reader S g} {piece : List ℕ} {p : Position} {t : S} {h : ReadingState} {r : Refusal} {index : ℕ} (by : Reaches old piece p t h) → Lawful g → (new : Reader S g) → left_of new ≡ h.machine.left →
    Stops g t h (bytes_from p piece) index (sink_of new) r → fed_of new ≡ fed_of old + (p.at + (index + 1 - length p.frames)) → (i : ℕ) × StopsAt old new piece r i
stops_reached {piece = piece} {p = p} {index = index} by laws new left stops fed =
    let next = bytes_from p piece in
    let within : index < length next = omega (arith, ap (λ (ys : List Placed). length ys) stops.is, length-drop index next) in
    let (owed, k, there) = stops_then (acts_before by) (take index next) (bytes_of stops.following) (parts_at by index ∙ ap (λ (ys : List Placed). bytes_of (take index next) ++ bytes_of ys) stops.is) stops.leads stops.stops in
    stops_byte new (omega (arith, left, by.acted.left, k.left)) laws (drop index p.frames) (leads_past by index (omega (arith, within)) k) (sym (drop_next p.frames p.place p.at index piece) ∙ stops.is) there
    (omega (arith, fed, length-drop index p.frames))
