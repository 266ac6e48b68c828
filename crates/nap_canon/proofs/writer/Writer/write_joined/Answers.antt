use Rattle.nap_canon.proofs.{G0, InRun, List, NoRun, OnOk, TextEnd, TextJoins, ap, arith, drop, inl, inr, length, length-drop, length-take-le, rules, run_after, sized_lines, sized_text, subst, ℕ, ◌*◌, ◌∙◌, ◌≡◌, ◌≤◌, ◌⊎◌}
use Rattle.nap_canon.proofs.writer.Writer.write_joined.Goals as goal

pub part-requires-in-Lines : goal.part-requires-in-Lines
part-requires-in-Lines g c = omega (arith, c.requires.few, sized_lines _ _ _ _ c.in-Lines.is)

pub part-requires-in-Text : goal.part-requires-in-Text
part-requires-in-Text g c = omega (arith, c.requires.few, sized_text _ _ _ _ _ c.in-Text.is)

pub returns-in-Lines : goal.returns-in-Lines
returns-in-Lines g c =
    let ps = c.in-Lines.points.now in
    let size : length c.part-in-Lines.result.now ≡ c.args.count =
    ap length c.part-in-Lines.ensures
    ∙ length-take-le c.args.count (drop c.args.first ps) (omega (arith, c.requires.few, sized_lines _ _ _ _ c.in-Lines.is, length-drop c.args.first ps)) in
    rw c.in-Lines.is (record {
      sent = search rules;
      text_end = subst (λ (n : ℕ). OnOk c.write_run-in-Lines.result (c.write_run-in-Lines.new.self.pending.text_end ≡ InRun (run_after c.args.self.now.pending.text_end 0x28 (8 * n)))) size c.write_run-in-Lines.ensures.text_end;
      kept = c.write_run-in-Lines.ensures.kept;
    })

-- the codes that open a text are few
few_codes : (text_end : TextEnd) (codes part : List ℕ) (count : ℕ) → TextJoins text_end codes count → length part ≡ count → (text_end ≡ NoRun G0) ⊎ (length part ≤ 1023)
few_codes text_end codes part count (inl is) size = inl is
few_codes text_end codes part count (inr opens) size = inr (omega (arith, opens.0, size))

pub write_text-requires : goal.write_text-requires
write_text-requires g c = grind (arith, length, length-take-le, sized_text, length-drop)
