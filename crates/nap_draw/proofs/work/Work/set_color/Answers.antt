use Rattle.nap_draw.proofs.{Base, Colour, Components, Err, Execution.does_as, Execution.does_refused, Execution.sets_does, List, Ok, Results.set_many, Results.set_none, Results.set_one, Runs.carried_length, Work, [], ap₂, arith, clears_nothing, colour_of, inl, inr, length, nat_tests, operand_words, Common.operands, refl, rule_result, set_color_rule, set_color_under, sym, with_drawing, ℕ, ◌<◌, ◌∙◌, ◌≡◌, ◌≤◌, ◌⊎◌}
use Rattle.nap_list.specs.declared.attribute.Origin.{Origin}
use Rattle.nap_draw.proofs.work.Work.set_color.Goals as goal

-- one colour is set
one_colour : (w : Work) {size most : ℕ} (run : List ℕ) {grb : Components} {colour : Colour} → size ≡ w.domain.multi → 1 ≤ size → most ≡ size → 0 < length run → length run ≤ most →
    grb ≡ colour_of (operand_words run) → colour ≡ w.state.drawing.colour → set_color_rule w (operands w.domain.multi (operand_words run)) ≡ set_color_under w colour grb
one_colour w run value least same some few is colour_is =
    let long = carried_length run in
    set_one w w.domain.multi (operand_words run) (omega arith) (omega arith) (omega arith) ∙ ap₂ (set_color_under w) (sym colour_is) (sym is)

pub returns-then-is_empty : goal.returns-then-is_empty
returns-then-is_empty g c =
    does_refused g.S.Sink _ (g.met.S.Sink.took_none _) _ _ (Err _) refl refl (set_none c.args.self.now c.args.self.now.domain.multi _ (grind (arith, nat_tests, carried_length)))

pub returns-then-run-from : goal.returns-then-run-from
returns-then-run-from g c =
    let k = c.args.self.now.domain.multi in
    let some : 1 ≤ k = omega (arith, c.multi-size.ensures.value, c.multi-size.ensures.least) in
    let many : k < length (operand_words c.args.run.now) = omega (arith, carried_length c.args.run.now, c.multi-size.ensures.value, c.from.ensures, c.if-run-from.true) in
    does_refused g.S.Sink _ (g.met.S.Sink.took_none _) _ _ (Err _) refl refl (set_many c.args.self.now k (operand_words c.args.run.now) some many)

-- a colour of mode 0
mode_zero : (w : Work) (colour : Colour) (grb : Components) → ((origin : Origin) × (colour ≡ Colour.Own origin)) ⊎ ((old : Components) × (colour ≡ Colour.Direct old)) →
    set_color_under w colour grb ≡ Ok (rule_result (with_drawing w (record w.state.drawing { base = Base.Direct grb; colour = Colour.Direct grb })) [])
mode_zero w colour grb (inl own) = rw own.1 refl
mode_zero w colour grb (inr direct) = rw direct.1 refl

pub returns-in-Own : goal.returns-in-Own
returns-in-Own g c =
    let w = c.args.self.now in
    let is = one_colour w c.args.run.now c.multi-size.ensures.value c.multi-size.ensures.least c.from.ensures (grind (arith, nat_tests)) c.if-run-from.false c.colour_bytes-grb.ensures refl in
    sets_does g.S.Sink c.args.sink.now (g.met.S.Sink.took_none _) ⊥ _ w _ (Ok (tt {0})) (is ∙ mode_zero w w.state.drawing.colour _ c.in-Own.is)

pub returns-in-Front : goal.returns-in-Front
returns-in-Front g c =
    let is = one_colour c.args.self.now c.args.run.now c.multi-size.ensures.value c.multi-size.ensures.least c.from.ensures (grind (arith, nat_tests)) c.if-run-from.false c.colour_bytes-grb.ensures (sym c.in-Front.is) in
    does_as g.S.Sink clears_nothing _ _ _ _ _ _ is c.put_map.ensures

pub returns-in-Pair : goal.returns-in-Pair
returns-in-Pair g c =
    let is = one_colour c.args.self.now c.args.run.now c.multi-size.ensures.value c.multi-size.ensures.least c.from.ensures (grind (arith, nat_tests)) c.if-run-from.false c.colour_bytes-grb.ensures (sym c.in-Pair.is) in
    does_as g.S.Sink clears_nothing _ _ _ _ _ _ is c.put_map-in-Pair.ensures

pub returns-in-ByReset : goal.returns-in-ByReset
returns-in-ByReset g c =
    let is = one_colour c.args.self.now c.args.run.now c.multi-size.ensures.value c.multi-size.ensures.least c.from.ensures (grind (arith, nat_tests)) c.if-run-from.false c.colour_bytes-grb.ensures (sym c.in-ByReset.is) in
    does_refused g.S.Sink _ (g.met.S.Sink.took_none _) _ _ (Err _) refl refl is
